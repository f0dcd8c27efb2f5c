-- Texts that are noted: one, and one after the other.
use Rattle.std.specs.Prelude.{Option, Some, None}
use Prim.Native.Nat.{ℕ, zero, suc, ◌+◌, ◌-◌, ◌≤◌, ◌<◌}
use mathlib.Core.Path.{◌≡◌, refl, sym, ap, ◌∙◌, subst}
use mathlib.Core.Bool.{Bool, true, false}
use mathlib.Core.List.{List, [], ◌∷◌, ◌++◌, map, append_assoc, append-nil}
use native.Mathlib.Decide.{ℕ_discrete}
use native.Mathlib.Omega.{arith}
use lib.ListN.{length, get_or, set, take, drop, length-set, length-append, length-take, length-map}
use lib.Seq.{get_or-set_same, get_or-set_other, take_at, length-take-le, take_all}
use Rattle.base.specs.Choose.{is_at}
use Rattle.base.specs.Texts.{text_at}
use Rattle.base.proofs.Parts.{at_below}
use Rattle.record.specs.declared.Param.{Param as Row}
use Rattle.record.specs.Params.{row_of}
use Rattle.output.specs.Fits.{Fits}
use Rattle.output.specs.Output.{written, Wrote}
use Rattle.output.proofs.Writes.{wrote_length}
use Rattle.lookup.specs.Unescape.{unescaped}
use Rattle.lookup.proofs.Unescaping.{unescaped_le}
use Rattle.structured_data.specs.Param.{param_at}
use Rattle.structured_data.specs.Element.{Params, none_at, params_from}
use Rattle.structured_data.specs.declared.Param.{Param}
use Rattle.structured_data.proofs.Params.{param_lies}
use Rattle.structured_data.proofs.Walks.{ahead, first, ahead_none, len_within, ahead_on, ahead_last}
use Rattle.message.specs.Rooms.{param_size, total}
use Rattle.bounds.proofs.Data.{total_append}
use Rattle.keyed.specs.Keys.{short, head_text, tail_text, key_text}
use Rattle.keyed.specs.Notes.{Inside, joined, Keyed, Roomed, Notes, row_at, Noted, Steps, rows_at}
use Rattle.keyed.specs.declared.Texts.{Texts}

-- ---- lists of texts

pub joined_append : (a b : List (List ℕ)) → joined (a ++ b) ≡ joined a ++ joined b
unfolding joined
joined_append [] b = refl
joined_append (t ∷ a) b = ap (λ (l : List ℕ). t ++ l) (joined_append a b) ∙ sym (append_assoc t (joined a) (joined b))

pub joined_one : (t : List ℕ) → joined (t ∷ []) ≡ t
unfolding joined
joined_one t = append-nil t

take_front : {A : Type 0} (a b : List A) (k : ℕ) → k ≤ length a → take k (a ++ b) ≡ take k a
take_front [] b zero h = refl
take_front [] b (suc k) h = absurd (omega arith)
take_front (x ∷ a) b zero h = refl
take_front (x ∷ a) b (suc k) h = ap (λ (l : List _). x ∷ l) (take_front a b k (omega arith))

map_append : (f : List ℕ → List ℕ) (a b : List (List ℕ)) → map f (a ++ b) ≡ map f a ++ map f b
map_append f [] b = refl
map_append f (x ∷ a) b = ap (λ (l : List (List ℕ)). f x ∷ l) (map_append f a b)

-- a text is no longer than its row says
key_le : (s : List ℕ) (p : Row) → length (key_text s (row_of p)) ≤ param_size (row_of p)
unfolding key_text head_text tail_text short param_size
key_le s p =
    let name = text_at s p.name_start p.name_len in
    let value = text_at s p.value_start p.value_len in
    omega (
      arith,
      length-append name (unescaped true value),
      unescaped_le true value,
      length-take p.name_len (drop p.name_start s),
      length-take p.value_len (drop p.value_start s),
    )

total_one : (p : Row) → total param_size (row_of p ∷ []) ≡ param_size (row_of p)
unfolding total
total_one p = omega arith

-- ---- one text

module _ (s : List ℕ) (p : Row) (t : Texts) (room : Roomed (row_of p ∷ []) t) where
  key_room : t.at + length (key_text s (row_of p)) ≤ length t.text.now
  key_room = omega (arith, key_le s p, total_one p, room.fits)

  pub note_fits : Fits t.text.now t.at (key_text s (row_of p))
  note_fits = record { fits = key_room }

  note_index : t.count + 1 < length t.ends.now
  note_index = omega (arith, room.many)

  module _ (next : ℕ) (text' : List ℕ) (w : Wrote t.text.now t.at (key_text s (row_of p)) next text') where
    pub note_small : next < 65536
    note_small = omega (arith, w.behind, key_room, room.small)

    new_front : (ts : List (List ℕ)) → Keyed ts t.text.now t.ends.now t.at → take next text' ≡ joined (ts ++ key_text s (row_of p) ∷ [])
    unfolding written
    new_front ts h =
        let key = key_text s (row_of p) in
        let l : length (take t.at t.text.now ++ key) ≡ t.at + length key = length-append (take t.at t.text.now) key ∙ ap (λ (n : ℕ). n + length key) (length-take-le t.at t.text.now h.inside) in
        ap (take next) (w.holds ∙ sym (append_assoc (take t.at t.text.now) key (drop (t.at + length key) t.text.now)))
        ∙ take_at (take t.at t.text.now ++ key) (drop (t.at + length key) t.text.now) next (l ∙ sym w.behind)
        ∙ ap (λ (t : List ℕ). t ++ key) h.front
        ∙ sym (joined_append ts (key ∷ []) ∙ ap (λ (t : List ℕ). joined ts ++ t) (joined_one key))

    new_ends : (ts : List (List ℕ)) → length ts ≡ t.count → Keyed ts t.text.now t.ends.now t.at → (j : ℕ) → j ≤ length (ts ++ key_text s (row_of p) ∷ [])
        → get_or (set t.ends.now (t.count + 1) next) j 0 ≡ length (joined (take j (ts ++ key_text s (row_of p) ∷ [])))
    new_ends ts lt h j b = go (ℕ_discrete j (t.count + 1))
      where
        key : List ℕ
        key = key_text s (row_of p)

        all : length (ts ++ key ∷ []) ≡ t.count + 1
        all = length-append ts (key ∷ []) ∙ ap (λ (n : ℕ). n + 1) lt

        go : Dec (j ≡ t.count + 1) → get_or (set t.ends.now (t.count + 1) next) j 0 ≡ length (joined (take j (ts ++ key ∷ [])))
        go (yes e) =
            rw e
            (get_or-set_same t.ends.now (t.count + 1) next 0 note_index
            ∙ sym (ap (λ (l : List (List ℕ)). length (joined l)) (take_all (t.count + 1) (ts ++ key ∷ []) (omega (arith, all)))
            ∙ ap length (sym (new_front ts h))
            ∙ length-take-le next text' (omega (arith, w.behind, key_room, wrote_length w key_room))))
        go (no e) =
            get_or-set_other t.ends.now (t.count + 1) j next 0 e
            ∙ h.each j (omega (arith, all, lt))
            ∙ ap (λ (l : List (List ℕ)). length (joined l)) (sym (take_front ts (key ∷ []) j (omega (arith, all, lt))))

    pub note_notes : (t' : Texts) → t'.text.now ≡ text' → t'.ends.now ≡ set t.ends.now (t.count + 1) next → t'.count ≡ t.count + 1 → t'.at ≡ next → Notes s (row_of p ∷ []) t t'
    note_notes t' et ee ec ea = record {
      text_kept = ap length et ∙ wrote_length w key_room;
      ends_kept = ap length ee ∙ length-set t.ends.now (t.count + 1) next;
      counted = ec;
      grown = omega (arith, w.behind, key_le s p, total_one p);
      adds = λ ts l h. rw (et, ee, ea) (record {
        front = new_front ts h;
        inside = omega (arith, w.behind, key_room, wrote_length w key_room);
        each = new_ends ts l h;
      });
    }

-- ---- none, and one after the other

pub notes_none : (s : List ℕ) (t : Texts) → Notes s [] t t
unfolding total
notes_none s t = record {
  text_kept = refl;
  ends_kept = refl;
  counted = omega arith;
  grown = omega arith;
  adds = λ ts l h. subst (λ (u : List (List ℕ)). Keyed u t.text.now t.ends.now t.at) (sym (append-nil ts)) h;
}

module _ (s : List ℕ) (a b : List (List ℕ)) (t t' : Texts) (u : Notes s a t t') where
  pub notes_then : (t'' : Texts) → Notes s b t' t'' → Notes s (a ++ b) t t''
  notes_then t'' v = record {
    text_kept = v.text_kept ∙ u.text_kept;
    ends_kept = v.ends_kept ∙ u.ends_kept;
    counted = omega (arith, u.counted, v.counted, length-append a b);
    grown = omega (arith, u.grown, v.grown, total_append param_size a b);
    adds = λ ts l h.
        subst (λ (x : List (List ℕ)). Keyed x t''.text.now t''.ends.now t''.at)
        (append_assoc ts (map (key_text s) a) (map (key_text s) b) ∙ ap (λ (x : List (List ℕ)). ts ++ x) (sym (map_append (key_text s) a b)))
        (v.adds (ts ++ map (key_text s) a) (length-append ts (map (key_text s) a) ∙ omega (arith, l, u.counted, length-map a (key_text s))) (u.adds ts l h));
  }

  -- room for what is left
  pub room_left : Roomed (a ++ b) t → Roomed b t'
  room_left r = record {
    fits = omega (arith, u.grown, u.text_kept, total_append param_size a b, r.fits);
    small = omega (arith, u.text_kept, r.small);
    many = omega (arith, u.ends_kept, u.counted, length-append a b, r.many);
  }

-- ---- the parameter at a position

-- room for the first of some
room_first : (row : List ℕ) (rows : List (List ℕ)) (t : Texts) → Roomed (row ∷ rows) t → Roomed (row ∷ []) t
unfolding total
room_first row rows t r = record { fits = omega (arith, r.fits); small = r.small; many = omega (arith, r.many) }

module _ (s : List ℕ) (e start : ℕ) (h : start ≤ length s) (p : Param) (q : param_at (drop start s) ≡ Some p) where
  lies : (p.value ≤ p.len) × (start + p.len ≤ length s)
  lies =
      let i = param_lies (drop start s) p.name p.value p.value_len p.len (sym q) in
      let w = len_within e s start start h p.name p.value p.value_len p.len q in
      (omega (arith, i.value_inside), w.1)

  pub param_within : start + p.len ≤ length s
  param_within = lies.1

  pub value_within : start + p.value ≤ length s
  value_within = omega (arith, lies)

  pub param_inside : Inside s (record { element = e; name_start = start; name_len = p.name; value_start = start + p.value; value_len = p.value_len })
  param_inside =
      let i = param_lies (drop start s) p.name p.value p.value_len p.len (sym q) in
      record { name_inside = omega (arith, i.value_behind, i.value_inside, lies); value_inside = omega (arith, i.value_inside, lies) }

  rows_one : (rest : Params) → ahead e start start (drop start s) ≡ first (row_at e start p) rest → rows_at s e start ≡ row_at e start p ∷ rest.rows
  unfolding params_from
  rows_one rest a = ap (λ (ps : Params). ps.rows) a

  pub param_room : (t : Texts) → Roomed (rows_at s e start) t → Roomed (row_at e start p ∷ []) t
  param_room t r = go (is_at s (start + p.len) 32) refl
    where
      go : (b : Bool) → is_at s (start + p.len) 32 ≡ b → Roomed (row_at e start p ∷ []) t
      go true b =
          room_first (row_at e start p) _ t (subst (λ (l : List (List ℕ)). Roomed l t) (rows_one _ (ahead_on e s start start h p.name p.value p.value_len p.len q b)) r)
      go false b =
          room_first (row_at e start p) _ t (subst (λ (l : List (List ℕ)). Roomed l t) (rows_one _ (ahead_last e s start start h p.name p.value p.value_len p.len q b)) r)

-- ---- the parameters of an element

-- `passed` are noted, and another would start at `start`
pub record Passing (s : List ℕ) (e from : ℕ) (t t' : Texts) (start : ℕ) : Type 0 where
  pub within_s : start ≤ length s
  pub before : ℕ
  pub passed : List (List ℕ)
  pub left : rows_at s e from ≡ passed ++ (ahead e start before (drop start s)).rows
  pub notes : Notes s passed t t'

module _ (s : List ℕ) (e from : ℕ) (t : Texts) where
  pub passing_none : from ≤ length s → Passing s e from t t from
  unfolding params_from
  passing_none h = record { within_s = h; before = from; passed = []; left = refl; notes = notes_none s t }

  module _ (t' : Texts) (start : ℕ) (c : Passing s e from t t' start) where
    -- the rows ahead do not depend on the position before
    same_rows : (before : ℕ) → (ahead e start before (drop start s)).rows ≡ rows_at s e start
    unfolding params_from
    same_rows before = go (param_at (drop start s)) refl
      where
        go : (p : Option Param) → param_at (drop start s) ≡ p → (ahead e start before (drop start s)).rows ≡ (ahead e start start (drop start s)).rows
        go None q = rw q refl
        go (Some x) q = rw q refl

    pub passing_room : Roomed (rows_at s e from) t → Roomed (rows_at s e start) t'
    passing_room r =
        subst (λ (l : List (List ℕ)). Roomed l t') (same_rows c.before)
        (room_left s c.passed _ t t' c.notes (subst (λ (l : List (List ℕ)). Roomed l t) c.left r))

    pub passing_all : (t'' : Texts) → Steps s e start t' None t'' → Notes s (rows_at s e from) t t''
    passing_all t'' (p, q) =
        let z : rows_at s e from ≡ c.passed = c.left ∙ ap (λ (ps : Params). c.passed ++ ps.rows) (ahead_none e s start c.before p) ∙ append-nil c.passed in
        rw (q, z) c.notes

    module _ (next : ℕ) (t'' : Texts) (w : Noted s e start t' next t'') where
      abbrev row : List ℕ
      row = row_at e start w.param

      further : (1 ≤ w.param.len) × (start + w.param.len ≤ length s)
      further = len_within e s start c.before c.within_s w.param.name w.param.value w.param.value_len w.param.len w.is

      pub next_within : next ≤ length s
      next_within = omega (arith, further, w.behind)

      now_notes : Notes s (c.passed ++ row ∷ []) t t''
      now_notes = notes_then s c.passed (row ∷ []) t t' c.notes t'' w.notes

      now_left : (rest : Params) → ahead e start c.before (drop start s) ≡ first row rest → rows_at s e from ≡ (c.passed ++ row ∷ []) ++ rest.rows
      now_left rest a = c.left ∙ ap (λ (ps : Params). c.passed ++ ps.rows) a ∙ sym (append_assoc c.passed (row ∷ []) rest.rows)

      pub passing_last : is_at s next 32 ≡ false → Notes s (rows_at s e from) t t''
      passing_last h =
          let u : is_at s (start + w.param.len) 32 ≡ false = ap (λ (i : ℕ). is_at s i 32) (sym w.behind) ∙ h in
          let z = now_left (none_at (start + w.param.len)) (ahead_last e s start c.before c.within_s w.param.name w.param.value w.param.value_len w.param.len w.is u) ∙ append-nil (c.passed ++ row ∷ []) in
          rw z now_notes

      module _ (h : is_at s next 32 ≡ true) where
        pub passing_less : length s - (next + 1) < length s - start
        passing_less = omega (arith, at_below s next 31 h, w.behind, further)

        pub passing_on : Passing s e from t t'' (next + 1)
        passing_on =
            let u : is_at s (start + w.param.len) 32 ≡ true = ap (λ (i : ℕ). is_at s i 32) (sym w.behind) ∙ h in
            record {
              within_s = omega (arith, at_below s next 31 h);
              before = next;
              passed = c.passed ++ row ∷ [];
              left = subst (λ (i : ℕ). rows_at s e from ≡ (c.passed ++ row ∷ []) ++ (ahead e (i + 1) i (drop (i + 1) s)).rows) (sym w.behind)
                  (now_left _ (ahead_on e s start c.before c.within_s w.param.name w.param.value w.param.value_len w.param.len w.is u));
              notes = now_notes;
            }
