-- What a reader left is in its types: each number of the record, and the counts, fit the words that they are laid out in.
use Rattle.std.specs.Prelude.{Option, Some, None}
use Prim.Native.Nat.{ℕ, ◌+◌, ◌^◌, ◌≤◌, ◌<◌}
use mathlib.Core.Path.{◌≡◌, refl}
use mathlib.Core.Bool.{true}
use mathlib.Core.List.{List}
use native.Mathlib.Omega.{arith}
use lib.ListN.{length}
use lib.IntN.{ℤ, pos, negsuc, nat_abs, sub_ℕ, ◌*ℤ◌}
use mir.Syntax.{w32, w64}
use mir.Val.{SFits}
use mir.ValLaws.{to_z-of_z}
use borrow.Author.Tests.{leb-true, ltb-false}
use Rattle.base.specs.Diff.{up, down}
use Rattle.base.proofs.Tests.{both}
use Rattle.base.proofs.Diffs.{pos_sub, join_fits}
use Rattle.calendar.specs.Calendar.{offset_limit}
use Rattle.calendar.specs.Instant.{epoch, local_seconds, seconds_of, shown}
use Rattle.calendar.specs.declared.DateTime.{DateTime}
use Rattle.calendar.proofs.Clocks.{local_below}
use Rattle.calendar.proofs.Instants.{minus_diff, up_room, down_room}
use Rattle.calendar.proofs.ThereAndBack.{there}
use Rattle.record.specs.Limits.{line_limit}
use Rattle.record.specs.declared.Record.{Record}
use Rattle.suits.specs.Suits.{level_suits, stamp_suits, record_suits, suits}
use Rattle.suits.proofs.Suited as suited
use Rattle.layout.proofs.Back.{LevelIn, StampIn, InTypes}
use Rattle.suited.specs.Served.{Left}
use Rattle.suited.proofs.AfterReading.{left_short, left_suits}
use Rattle.boundary.proofs.Sizes.{left_sized}
use Rattle.record.specs.declared.Timestamp.{Timestamp}

level_in_lem : (most : ℕ) (l : Option ℕ) → most ≤ 255 → level_suits most l ≡ true → LevelIn l
level_in_lem most None m h = tt
level_in_lem most (Some n) m h = omega (arith, leb-true n most h)

-- ---- the timestamp

offset_in : (o : ℤ) → nat_abs o ≤ offset_limit → SFits w32 o
offset_in (pos n) h = record { sfits = omega arith }
offset_in (negsuc n) h = record { sfits = omega arith }

difference_in : (a b : ℕ) → a < 2 ^ 63 → b < 2 ^ 63 → SFits w64 (sub_ℕ a b)
difference_in a b h k =
    let f : SFits w64 (pos a) = record { sfits = h } in
    let g : SFits w64 (pos b) = record { sfits = k } in
    rw (to_z-of_z w64 (pos a) f, to_z-of_z w64 (pos b) g, pos_sub a b) at (join_fits a b (pos a) (pos b) f g refl refl (h, k))

-- an instant whose local year is one of 0 to 9999
seconds_in : (z o : ℤ) (t : DateTime) → SFits w32 o → shown z o ≡ Some t → SFits w64 z
unfolding seconds_of
seconds_in z o t f h =
    let e : up (o *ℤ pos 60) < 2 ^ 62 = rw (to_z-of_z w32 o f) at (up_room o f _ refl) in
    let w : down (o *ℤ pos 60) < 2 ^ 62 = rw (to_z-of_z w32 o f) at (down_room o f _ refl) in
    let (v, q) = there z o t h in
    let a : local_seconds t + down (o *ℤ pos 60) < 2 ^ 63 = omega (arith, local_below t v) in
    let b : epoch + up (o *ℤ pos 60) < 2 ^ 63 = omega arith in
    rw (← q, minus_diff (local_seconds t) epoch (o *ℤ pos 60)) (difference_in _ _ a b)

stamp_in_lem : (s : Option Timestamp) → stamp_suits s ≡ true → StampIn s
stamp_in_lem None h = tt
stamp_in_lem (Some t) h =
    let i = suited.stamp_in_lem t h in
    let f = offset_in t.offset i.offset_in in
    (seconds_in t.seconds t.offset i.clock f i.shows, omega (arith, i.nanos_in), omega (arith, i.digits_in), f)

-- ---- the whole

record_in_lem : (line : List ℕ) (r : Record) (e p : ℕ) (elements params : List (List ℕ)) → suits line r e p elements params ≡ true → suited.RecordIn line r
unfolding suits
record_in_lem line r e p elements params h = suited.record_in_lem line r (both (record_suits line r) _ h).0

pub left_in : {line : List ℕ} {r : Record} {e p : ℕ} {elements params : List (List ℕ)} → Left line r e p elements params → InTypes r e p
left_in {line} {r} {e} {p} {elements} {params} left =
    let short : length line ≤ line_limit = ltb-false line_limit (length line) (left_short left) in
    let i = record_in_lem line r e p elements params (left_suits left) in
    let s = left_sized short left in
    record {
      protocol_in = s.version_in;
      facility_in = level_in_lem 23 r.facility (omega arith) i.facility_in;
      severity_in = level_in_lem 7 r.severity (omega arith) i.severity_in;
      timestamp_in = stamp_in_lem r.timestamp i.timestamp_in;
      host_in = (omega (arith, i.host_in), omega (arith, i.host_in));
      app_in = (omega (arith, i.app_in), omega (arith, i.app_in));
      procid_in = (omega (arith, i.procid_in), omega (arith, i.procid_in));
      msgid_in = (omega (arith, i.msgid_in), omega (arith, i.msgid_in));
      message_in = (omega (arith, i.message_in), omega (arith, i.message_in));
      counts_in = (omega (arith, s.elements_to), omega (arith, s.params_to));
    }
