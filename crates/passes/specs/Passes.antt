-- A pass over an aggregate's members, in the order of its chain (02, 2026-03).
use Rattle.std.specs.Prelude.{Bool, true, false, cond, List, [], ◌∷◌, ℕ, suc, Option, Some, None}
use Rattle.telemetry.specs.declared.Fields.{Fields}
use Rattle.marks.specs.Assessments.{without}
use Rattle.marks.specs.declared.Mark.TheVariants.{Blank}
use Rattle.marks.specs.declared.Sight.{Sight}
use Rattle.aggregates.specs.Aggregates.{sums_assessment, aggregate_assessment}
use Rattle.aggregates.specs.declared.Sums.{Sums}
use Rattle.passes.specs.declared.Pass.{Pass}

-- of any quality and conformance mode, and whatever is kept
abbrev pub is_readable : Option Fields → Bool
is_readable (Some f) = true
is_readable None = false

-- "the first unreadable one's place in the chain, or the length of the chain if there is none"
unfoldable pub looked_at : List Sight → ℕ
looked_at [] = 0
looked_at (v ∷ vs) = cond (is_readable v.line) (suc (looked_at vs)) 1

-- "Reports and states are what they were": the assessment is that of all members
unfoldable pub pass_over : List Sight → Pass
pass_over members = record { assessment = aggregate_assessment members; looked = looked_at members }

-- ---- step by step; `proofs/Looks.antt` has why

-- a pass that met no unreadable member
unfoldable pub whole : Sums → ℕ → Pass
whole sums looked = record { assessment = sums_assessment sums; looked = looked }

-- and one that did, at the last that it looked at
unfoldable pub early : ℕ → Pass
early looked = record { assessment = without Blank; looked = looked }
