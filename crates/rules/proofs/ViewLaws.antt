-- The view of a page: when it is refused, how long it is, and which bytes it holds. Assumes nothing.
use Rattle.rules.specs.Outcomes.{accepted}
use Rattle.std.specs.Prelude.{Err}
use mathlib.Core.Path.{◌≡◌, ap, ◌∙◌}
use mathlib.Core.Logic.{◌≢◌}
use mathlib.Core.List.{[]}
use Prim.Native.Nat.{ℕ, ◌+◌, ◌≤◌, ◌<◌}
use native.Mathlib.Omega.{arith}
use native.Mathlib.Decide.{ℕ_discrete, dec_le}
use lib.ListN.{length, get_or, drop, length-drop}
use lib.Seq.{length-take-le, get_or-take, get_or-drop}
use borrow.Author.Tests.{eq-eqb, ne_eqb, le-leb, lt-leb}
use Rattle.rules.specs.declared.Refusal.{Refusal}
use Rattle.rules.specs.declared.Refusal.TheVariants as refusal
use Rattle.rules.specs.Image.{Image, at, page_byte}
use Rattle.rules.specs.Registers.{view_verdict, view_of}
use Rattle.rules.proofs.Bools.{impossible}

-- ---- when it is refused

-- with 1 where the length is wrong, whatever the page
pub view-length_refused : (m : Image) (p : ℕ) → length m ≢ 1265 → view_verdict m p ≡ (Err refusal.Length)
unfolding view_verdict
view-length_refused m p d = rw (ne_eqb (length m) 1265 d)

module _ (m : Image) (p : ℕ) (long : length m ≡ 1265) where
  -- then with 3 for a page over 63
  pub view_page_refused : 63 < p → view_verdict m p ≡ (Err refusal.Register)
  unfolding view_verdict
  view_page_refused h = rw (eq-eqb (length m) 1265 long, lt-leb p 63 h)

  -- else it is accepted
  pub view-accepted : p ≤ 63 → view_verdict m p ≡ accepted
  unfolding view_verdict
  view-accepted h = rw (eq-eqb (length m) 1265 long, le-leb p 63 h)

-- so it is accepted only with the right length and a page of 0 to 63
pub view_only : (m : Image) (p : ℕ) → view_verdict m p ≡ accepted → (length m ≡ 1265) × (p ≤ 63)
view_only m p a = go (ℕ_discrete (length m) 1265) (dec_le p 63)
  where
    go : Dec (length m ≡ 1265) → Dec (p ≤ 63) → (length m ≡ 1265) × (p ≤ 63)
    go (yes l) (yes h) = (l, h)
    go (yes l) (no n) = impossible (cc (view_page_refused m p l (omega arith)))
    go (no d) _ = impossible (cc (view-length_refused m p d))

-- ---- what it holds

-- a refused view is empty
pub view_empty : (m : Image) (p : ℕ) (r : Refusal) → view_verdict m p ≡ (Err r) → view_of m p ≡ []
unfolding view_of
view_empty m p r e = rw e

module _ (m : Image) (p : ℕ) (long : length m ≡ 1265) (h : p ≤ 63) where
  -- sixteen bytes
  pub view-length : length (view_of m p) ≡ 16
  unfolding view_of page_byte
  view-length = rw (view-accepted m p long h) (length-take-le 16 (drop (page_byte p 240) m) (simp length-drop (omega arith)))

  -- R240 to R255 of the page as stored, whatever PPR holds
  pub view-at : (j : ℕ) → j < 16 → get_or (view_of m p) j 0 ≡ at m (page_byte p (240 + j))
  unfolding view_of page_byte
  view-at j g =
      rw (view-accepted m p long h) (get_or-take 16 (drop (page_byte p 240) m) j 0 g ∙ get_or-drop (page_byte p 240) m j 0
      ∙ ap (at m) (omega arith))
