-- A hyphen where the structured data would stand belongs to the message.
use Prim.Native.Nat.{ℕ, ◌+◌}
use mathlib.Core.Path.{◌≡◌, refl, ap, ◌∙◌}
use mathlib.Core.Bool.{true}
use mathlib.Core.List.{List}
use native.Mathlib.Omega.{arith}
use lib.ListN.{drop}
use Rattle.base.specs.Choose.{is_at}
use Rattle.base.specs.Runs.{run}
use Rattle.base.proofs.Parts.{at_cons}
use Rattle.base.proofs.Runs.{run_no}
use Rattle.parsers.specs.Steps.{is_blank, blanks_from}
use Rattle.structured_data.proofs.Hyphen.{hyphen_3164}
use Rattle.rfc3164.specs.Rfc3164.{tag_end, header_from, body_from}
use Rattle.rfc3164.specs.Hyphen.{HyphenKept}

no_blank : (s : List ℕ) (at : ℕ) → is_at s at 45 ≡ true → blanks_from s at ≡ at
no_blank s at h = let z : run is_blank (drop at s) ≡ 0 = ap (run is_blank) (at_cons s at 44 h) ∙ run_no is_blank 45 (drop (at + 1) s) refl in omega arith

pub hyphen_kept : HyphenKept
unfolding body_from
hyphen_kept pri stamp s at h =
    let b = tag_end s (header_from s at).next in
    (rw (hyphen_3164 s b h, no_blank s b h), refl, hyphen_3164 s b h)
