-- A hyphen where the elements would stand.
use Prim.Native.Nat.{ℕ}
use mathlib.Core.Path.{◌≡◌, refl, sym}
use mathlib.Core.Bool.{Bool, true}
use mathlib.Core.List.{List}
use lib.ListN.{get_or}
use borrow.Author.Tests.{eqb-true, eq-eqb}
use Rattle.base.specs.Choose.{is_at}
use Rattle.base.proofs.Tests.{clash}
use Rattle.structured_data.specs.Data.{end_at, hyphen_at, data_from, rows_or}
use Rattle.structured_data.specs.declared.Rules.{Rules}
use Rattle.structured_data.specs.declared.Rules.TheVariants.{Rfc3164Rules, Rfc5424Rules}
use Rattle.structured_data.proofs.Lists.{unopened}

-- one that says that there are none is one
pub hyphen_there : (rules : Rules) (s : List ℕ) (at : ℕ) → hyphen_at rules s at ≡ true → is_at s at 45 ≡ true
hyphen_there Rfc5424Rules s at h = h
hyphen_there Rfc3164Rules s at h = clash (sym h)

pub hyphen_5424 : (rules : Rules) (s : List ℕ) (at : ℕ) (r : Bool) → r ≡ is_at s at 45 → rules ≡ Rfc5424Rules → r ≡ hyphen_at rules s at
hyphen_5424 rules s at r e h = rw h e

-- of an RFC 3164 line it is left where it is
pub hyphen_3164 : (s : List ℕ) (at : ℕ) → is_at s at 45 ≡ true → rows_or at (data_from Rfc3164Rules s at) ≡ end_at at
unfolding data_from
hyphen_3164 s at h =
    let u = unopened Rfc3164Rules s 0 at (rw (eqb-true (get_or s at 0) 45 h)) in
    rw (u, eq-eqb at at refl)
