-- No tag is read where no host is, so that a branch for it changes nothing.
use Rattle.std.specs.Prelude.{Option, Some, None}
use Prim.Native.Nat.{ℕ, ◌+◌}
use mathlib.Core.Path.{◌≡◌, refl}
use mathlib.Core.List.{List}
use mathlib.Core.Bool.{true}
use native.Mathlib.Omega.{arith}
use lib.ListN.{drop}
use Rattle.base.specs.Choose.{is_at}
use Rattle.base.proofs.Tests.{by_if}
use Rattle.record.specs.declared.Place.{Place}
use Rattle.parsers.specs.Steps.{byte_from, placed, host_from, tag_from, on_some}
use Rattle.parsers.specs.declared.Text.{Text}
use Rattle.parsers.specs.declared.Text.TheVariants.{Fails, Absent, Given}
use Rattle.parsers.proofs.Unread.{no_host_no_tag}
use Rattle.rfc3164.specs.Names.{host_and_tag}
use Rattle.rfc3164.specs.Rfc3164.{spaced_host, spaced_tag}
use Rattle.rfc3164.specs.TagAlone.{is_unspaced, NoTagAlone, four_branches, branched_from, SameHeader}
use Rattle.rfc3164.proofs.Lines.{by_header}

unplaced : (at : ℕ) (t : Text) → placed at t ≡ None → t ≡ Fails
unplaced at Fails h = refl
unplaced at (Absent n) h = let z : ◌≡◌ {A = ℕ} 0 1 = cc in absurd (omega arith)
unplaced at (Given k n) h = let z : ◌≡◌ {A = ℕ} 0 1 = cc in absurd (omega arith)

pub no_tag_alone : NoTagAlone
unfolding spaced_host spaced_tag byte_from host_from tag_from
no_tag_alone s at =
    by_if (λ g. on_some g None (λ a. host_from s a) ≡ None → (is_unspaced s at ≡ true) × (on_some g None (λ a. tag_from s a) ≡ None)) (is_at s at 32) _ _
    (λ z h. let (u, t) = no_host_no_tag (drop (at + 1) s) (unplaced (at + 1) _ h) in (rw z u, rw t)) (λ z h. (rw z, refl))

host_names : (s : List ℕ) (host : Place) (n : ℕ) (tag : Option (Place × ℕ)) → four_branches s (Some (host, n)) tag ≡ host_and_tag s host tag
unfolding host_and_tag
host_names s host n None = refl
host_names s host n (Some x) = refl

pub same_header : SameHeader
same_header s at =
    by_header s at (λ r. branched_from s at ≡ r) (λ z. rw (z, (no_tag_alone s at z).1)) λ host a z.
    rw (z, host_names s host a (spaced_tag s a))
