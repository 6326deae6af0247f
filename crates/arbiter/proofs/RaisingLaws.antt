-- What the watchdog's end of count does to the maskable bit leaves TLIP. Assumes nothing.
use mathlib.Core.Path.{◌≡◌, refl}
use mathlib.Core.Logic.{inl}
use mathlib.Core.Bool.{Bool, true, cond}
use native.Mathlib.Omega.{arith}
use lib.Dec.{lit<}
use Rattle.rules.specs.Image.{Image, bit_of, has, put, EIPR, TLIP}
use Rattle.rules.proofs.Bools.{cond_elim}
use Rattle.rules.proofs.ImageLaws.{has-put_other}

-- TLIP is no bit of EIPR
pub top_stays : (m : Image) (b : Bool) → has (cond b (put m (bit_of EIPR 0) true) m) TLIP ≡ has m TLIP
top_stays m b =
    cond_elim (λ i. has i TLIP ≡ has m TLIP) b (λ t. has-put_other m (bit_of EIPR 0) true TLIP (lit< tt) (lit< tt) (inl (λ e. omega arith))) (λ f. refl)
