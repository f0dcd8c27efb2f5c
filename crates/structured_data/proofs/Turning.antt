-- A step over the list of elements: which walks fail for sure, and what the walk over an element's parameters says of the step.
use Rattle.std.specs.Prelude.{if◌then◌else◌}
use Prim.Native.Nat.{ℕ, ◌+◌, ◌^◌, ◌≤◌, ◌<◌}
use mathlib.Core.Path.{◌≡◌, refl, sym, ap, ◌∙◌}
use mathlib.Core.Bool.{Bool, true, false, not, ◌&&◌}
use mathlib.Core.List.{List, [], ◌∷◌}
use native.Mathlib.Decide.{dec_le}
use native.Mathlib.Omega.{arith}
use lib.Dec.{leb, eqb}
use lib.ListN.{length, drop, length-drop}
use mir.Syntax.{w64}
use mir.Val.{Fits}
use borrow.Author.Tests.{not-true, not-false, le-leb, lt-leb}
use Rattle.base.specs.Choose.{is_at}
use Rattle.base.specs.Runs.{run}
use Rattle.base.proofs.Tests.{clash, by_test, by_if}
use Rattle.base.proofs.Parts.{at_past}
use Rattle.base.proofs.Runs.{run_le, run_after}
use Rattle.parsers.specs.Steps.{is_inside}
use Rattle.structured_data.specs.Element.{params_from}
use Rattle.structured_data.specs.Element.Element.{no_element, is_element}
use Rattle.structured_data.specs.Data.{Item, item_of, item_from}
use Rattle.structured_data.specs.Steps.{walk_from, open_from, ends_list, turn_of, Fails, Stops, Ends, Dead, Stop, Closes, Turns}
use Rattle.structured_data.specs.declared.Rules.{Rules}
use Rattle.structured_data.specs.declared.Rules.TheVariants.{Rfc3164Rules, Rfc5424Rules}
use Rattle.structured_data.specs.declared.Open.{Open}
use Rattle.structured_data.specs.declared.Turn.{Turn}
use Rattle.structured_data.specs.declared.Walk.{Walk}
use Rattle.structured_data.proofs.Params.{at_part}
use Rattle.structured_data.proofs.Walks.{params_reach, fate}
use Rattle.structured_data.proofs.Elements.{opens, closed_fits, element_of}
use Rattle.structured_data.proofs.Items.{item_is, walk_is, unclosed, taken_is, ended_is}
use Rattle.structured_data.proofs.Lists.{Follows, follows}

-- The later of two positions
module _ (a b : ℕ) where
  pub later_yes : a ≤ b → b ≡ (if leb a b then b else a)
  later_yes h = rw (le-leb a b h)

  pub later_no : b < a → a ≡ (if leb a b then b else a)
  later_no h = rw (lt-leb a b h)

pub ruleset later_laws = (later_yes, later_no)

-- The first `]`
module _ (s : List ℕ) (at dead : ℕ) (h : dead ≤ length s) where
  pub stop_none : dead ≤ at → Stop s at dead (length s)
  stop_none l = Stop.nowhere refl

  module _ (l : at < dead) (u : List ℕ) (eu : u ≡ drop at s) (n : ℕ) (en : n ≡ run is_inside u) where
    inside : n ≡ run is_inside (drop at s)
    inside = en ∙ ap (run is_inside) eu

    pub stop_fits : length s < 2 ^ 64 → Fits w64 (at + n)
    stop_fits g = record { fits = omega (arith, inside, run_le is_inside (drop at s), length-drop at s) }

    pub stop_far : dead ≤ at + n → Stop s at dead (length s)
    stop_far k = Stop.nowhere refl

    pub stop_there : at + n < dead → Stop s at dead (at + n)
    stop_there k =
        let r = run_after is_inside (drop at s) (omega (arith, inside, length-drop at s)) in
        Stop.there (omega arith) k (sym (at_part s at n 93) ∙ ap (λ (j : ℕ). is_at (drop at s) j 93) inside ∙ not-false (is_at (drop at s) (run is_inside (drop at s)) 93) r)

pub ruleset stop_laws = (stop_none, stop_fits, stop_far, stop_there)

-- Which walks fail for sure
pub dead_none : (s : List ℕ) (at : ℕ) → Dead s at 0
dead_none s at = record { within_s = omega arith; fails = λ r h l. absurd (omega arith) }

dead_on : (s : List ℕ) (at next dead : ℕ) → at ≤ next → Dead s at dead → Dead s next dead
dead_on s at next dead h c = record { within_s = c.within_s; fails = λ r l. c.fails r (omega arith) }

module _ (s : List ℕ) (at : ℕ) where
  -- no `]` before the parameters
  behind_front : ((open_from s at).id ≡ 0 → ⊥) → (r : ℕ) → at ≤ r → is_at s r 93 ≡ true → (open_from s at).start ≤ r
  behind_front z r h b = go (dec_le (open_from s at).start r)
    where
      go : Dec ((open_from s at).start ≤ r) → (open_from s at).start ≤ r
      go (yes l) = l
      go (no l) = clash (sym b ∙ (opens s at).unclosed z r h (omega arith))

  pub stops_there : (dead stop : ℕ) → Dead s at dead → Stop s at dead stop → (o : Open) → o ≡ open_from s at → Stops s o.start stop
  stops_there dead stop d t o eo = rw eo (record { at_within = (opens s at).start_within; past_stop = go t (dec_le 1 (open_from s at).id) })
    where
      reach : ((open_from s at).start ≤ (walk_from s (open_from s at).start).next) × ((walk_from s (open_from s at).start).next ≤ length s)
      reach = let r = params_reach 0 (open_from s at).start s (opens s at).start_within in (omega (arith, r.few), r.end_within)

      go : Stop s at dead stop → Dec (1 ≤ (open_from s at).id) → stop < (walk_from s (open_from s at).start).next → Fails s (open_from s at).start
      go (Stop.nowhere q) _ h = absurd (omega (arith, reach))
      go (Stop.there a b c) (yes z) h =
          let f = fate s stop c (open_from s at).start (behind_front (λ q. omega arith) stop a c) h in
          rw f (d.fails stop a b c)
      go (Stop.there a b c) (no z) h =
          let q : (open_from s at).start ≡ length s = (opens s at).start_none (omega arith) in
          sym (at_past s _ 93 (omega arith) (omega (arith, reach)))

-- The step
module _ (rules : Rules) (s : List ℕ) (at id : ℕ) (w : Walk) (dead : ℕ) (c : Closes s at id w dead) where
  closed : is_at s w.next 93 ≡ true → w ≡ walk_from s (open_from s at).start
  closed h = go c.ends
    where
      go : Ends s (open_from s at).start w → w ≡ walk_from s (open_from s at).start
      go (Ends.whole q) = q
      go (Ends.given_up n u f) = clash (sym h ∙ ap (λ (i : ℕ). is_at s i 93) n ∙ u)

  fails : is_at s w.next 93 ≡ false → Fails s (open_from s at).start
  fails h = go c.ends
    where
      go : Ends s (open_from s at).start w → Fails s (open_from s at).start
      go (Ends.whole q) = ap (λ (w : Walk). is_at s w.next 93) (sym q) ∙ h
      go (Ends.given_up n u f) = f

  -- a walk that failed: each `]` that it passed is dead
  dead_more : (id ≡ 0 → ⊥) → is_at s w.next 93 ≡ false → (m : ℕ) → m ≡ (if leb dead w.next then w.next else dead) → Dead s at m
  dead_more z h m e = go (leb dead w.next) e
    where
      passed : Ends s (open_from s at).start w → Dead s at w.next
      passed (Ends.given_up n u f) =
          record {
            within_s = omega (arith, (opens s at).start_within);
            fails = λ r a b q. absurd (omega (arith, behind_front s at (λ y. z (c.named ∙ y)) r a q));
          }
      passed (Ends.whole q) =
          record {
            within_s = rw q (params_reach 0 (open_from s at).start s (opens s at).start_within).end_within;
            fails = λ r a b y.
                let f = fate s r y (open_from s at).start (behind_front s at (λ y. z (c.named ∙ y)) r a y) (rw q at b) in
                ap (λ (i : ℕ). is_at s i 93) (sym f) ∙ ap (λ (w : Walk). is_at s w.next 93) (sym q) ∙ h;
          }

      go : (b : Bool) → m ≡ (if b then w.next else dead) → Dead s at m
      go true e = rw e (passed c.ends)
      go false e = rw e c.alive

  turn_dead : (d : ℕ) (x : Item) → (turn_of at d x).dead ≡ d
  turn_dead d (Item.taken row ps next) = refl
  turn_dead d (Item.skipped next) = refl
  turn_dead d Item.ended = refl

  onward : (d : ℕ) (r : Turn) → Follows rules s 0 at d r → at ≤ r.next
  onward d r (Follows.ends q f) = omega (arith, ap (λ (r : Turn). r.next) q)
  onward d r (Follows.skips next q h l f) = omega (arith, ap (λ (r : Turn). r.next) q)
  onward d r (Follows.takes next q h l f) = omega (arith, ap (λ (r : Turn). r.next) q)

  turns : (d : ℕ) (r : Turn) → Dead s at d → ((e : ℕ) → r ≡ turn_of at d (item_from rules e at (drop at s))) → Turns rules s at r
  turns d r a q =
      let k : (e : ℕ) → d ≡ r.dead = λ e. sym (ap (λ (r : Turn). r.dead) (q e) ∙ turn_dead d (item_from rules e at (drop at s))) in
      record {
        is = λ e. q e ∙ ap (λ (j : ℕ). turn_of at j (item_from rules e at (drop at s))) (k e);
        alive = dead_on s at r.next r.dead (onward d r (follows rules s 0 at d r (q 0))) (rw (k 0) at a);
      }

  pub turn_no_id : (r : Turn) → r ≡ turn_of at dead (item_of rules at (drop at s) no_element) → id ≡ 0 → Turns rules s at r
  turn_no_id r er z = turns dead r c.alive (λ e. er ∙ sym (rw (item_is rules s at e, sym c.named ∙ z)))

  module _ (z : id ≡ 0 → ⊥) (d : Bool) (ed : d ≡ is_at s w.next 93) where
    pub turn_unclosed : not d ≡ true → (m : ℕ) → m ≡ (if leb dead w.next then w.next else dead)
        → (r : Turn) → r ≡ turn_of at m (item_of rules at (drop at s) no_element)
        → Turns rules s at r
    turn_unclosed h m em r er =
        let b : is_at s w.next 93 ≡ false = sym ed ∙ not-true d h in
        turns m r (dead_more z b m em) (λ e. er ∙ sym (rw (item_is rules s at e, unclosed e s at (open_from s at) (fails b))))

    module _ (hd : not d ≡ false) where
      whole : w ≡ walk_from s (open_from s at).start
      whole = closed (sym ed ∙ not-false d hd)

      is_there : (e : ℕ) → element_of e s at (open_from s at)
          ≡ is_element ((at + 1) ∷ (open_from s at).id ∷ []) (params_from e (open_from s at).start (drop (open_from s at).start s)).rows (w.next + 1)
      is_there e =
          rw ((walk_is e s (open_from s at).start w whole).1, ← ed, not-false d hd, le-leb 1 (open_from s at).id (let n : id ≡ (open_from s at).id = c.named in omega arith))

      module _ (t : Bool) (et : t ≡ ends_list rules) where
        pub turn_empty : (t && eqb w.count 0) ≡ true → Turns rules s at (record { elements = 0; params = 0; next = at; dead = dead })
        turn_empty h =
            turns dead _ c.alive
            (λ e. sym (rw (item_is rules s at e, is_there e, ended_is rules at w.count (drop at s) _ _ (w.next + 1) (walk_is e s (open_from s at).start w whole).0 (rw (← et) h))))

        pub turn_taken : (t && eqb w.count 0) ≡ false → Turns rules s at (record { elements = 1; params = w.count; next = w.next + 1; dead = dead })
        turn_taken h =
            turns dead _ c.alive
            (λ e.
            let k = (walk_is e s (open_from s at).start w whole).0 in
            sym (rw (item_is rules s at e, is_there e, taken_is rules at w.count (drop at s) _ _ (w.next + 1) k (rw (← et) h), k)))

pub ruleset turn_laws = (turn_no_id, turn_unclosed, turn_empty, closed_fits, turn_taken)

-- an element that is taken closes
failed_none : (rules : Rules) (at d : ℕ) (t : List ℕ) → (turn_of at d (item_of rules at t no_element)).elements ≡ 0
failed_none Rfc3164Rules at d t = refl
failed_none Rfc5424Rules at d t =
    by_if (λ x. (turn_of at d x).elements ≡ 0) (is_at t 0 91 && is_at t (run is_inside t) 93) (Item.skipped (at + run is_inside t + 1)) Item.ended (λ q. refl) (λ q. refl)

module _ (rules : Rules) (s : List ℕ) (at : ℕ) (r : Turn) (t : Turns rules s at r) (one : r.elements ≡ 1) where
  not_failed : Fails s (open_from s at).start → ⊥
  not_failed f =
      let i : item_from rules 0 at (drop at s) ≡ item_of rules at (drop at s) no_element = item_is rules s at 0 ∙ ap (item_of rules at (drop at s)) (unclosed 0 s at (open_from s at) f) in
      omega (arith, ap (λ (r : Turn). r.elements) (t.is 0 ∙ ap (turn_of at r.dead) i), failed_none rules at r.dead (drop at s))

  pub taken_closes : (w : Walk) → Ends s (open_from s at).start w → is_at s w.next 93 ≡ true
  taken_closes w (Ends.given_up n u f) = absurd (not_failed f)
  taken_closes w (Ends.whole q) =
      by_test (λ b. is_at s w.next 93 ≡ b → b ≡ true) (is_at s w.next 93)
      (λ _ h. refl)
      (λ _ h. absurd (not_failed (ap (λ (w : Walk). is_at s w.next 93) (sym q) ∙ h)))
      refl
