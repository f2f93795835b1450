-- The cases of a test. Assumes nothing.
use Rattle.std.proofs.Common.{◌≡◌, refl, Bool, true, false}

-- a test's two cases, with the equation
pub decide : {P : Type 0} (b : Bool) → (b ≡ true → P) → (b ≡ false → P) → P
decide true f g = f refl
decide false f g = g refl
