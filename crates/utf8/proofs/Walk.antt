-- Between characters no range is asked for.
use Prim.Native.Nat.{ℕ}
use mathlib.Core.Path.{◌≡◌, refl}
use mathlib.Core.List.{List, [], ◌∷◌}
use Rattle.utf8.specs.Lead.{utf8_from}

pub any_range : (lo hi lo' hi' : ℕ) (s : List ℕ) → utf8_from 0 lo hi s ≡ utf8_from 0 lo' hi' s
unfolding utf8_from
any_range lo hi lo' hi' [] = refl
any_range lo hi lo' hi' (b ∷ s) = refl
