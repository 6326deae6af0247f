-- Document 01, "Arbitration": the return. Assumes nothing.
use Rattle.std.specs.Prelude.{Bool, true, false, cond, ℕ, zero, suc, ltb, set, Ok}
use Rattle.rules.specs.declared.Answer.TheVariants as answer
use Rattle.rules.specs.Image.{Image, has, put, put_CPL, in_service, HL, IAM, IEN, MARK}
use Rattle.rules.specs.Outcomes.{Outcome, outcome, Answered}

-- the smallest x below n that passes a test, n where there is none
unfoldable pub smallest : ℕ → (ℕ → Bool) → ℕ
smallest zero test = 0
smallest (suc n) test = cond (test 0) 0 (suc (smallest n (λ x. test (suc x))))

-- the smallest x whose HLx is set, 7 with no HL bit set (house reading)
unfoldable pub restored_level : Image → ℕ
restored_level m = smallest 7 (λ x. has m (HL x))

-- that bit is cleared; none at 7
unfoldable pub popped : Image → Image
popped m = cond (ltb (restored_level m) 7) (put m (HL (restored_level m)) false) m

-- that, and CPL becomes that level
unfoldable pub unnested : Image → Image
unnested m = put_CPL (popped m) (restored_level m)

-- with IAM = 1 at this moment; with IAM = 0 the levels stay
abbrev pub returned_levels : Image → Image
returned_levels m = cond (has m IAM) (unnested m) m

-- if the mark is set it is cleared and nothing else changes; otherwise IEN is set
unfoldable pub returned : Image → Image
returned m = cond (in_service m) (set m MARK 0) (put (returned_levels m) IEN true)

-- a return; its answer has no values
unfoldable pub return_of : Image → Outcome Answered Image
return_of m = outcome (Ok answer.Returned) (returned m)
