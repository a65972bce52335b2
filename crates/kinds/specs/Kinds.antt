-- The kinds of units and their numbers in the rules (01, "The register").
use Rattle.std.specs.Prelude.{◌≡◌, Bool, true, false, ℕ, Option, Some, None, Result, MatchResult, cond, eqb}
use Rattle.kinds.specs.declared.Kind.{Kind}
use Rattle.kinds.specs.declared.Kind.TheVariants.{Generating, Load, Bidirectional, SemiScheduled}
use Rattle.kinds.specs.declared.UnknownKind.{UnknownKind}

-- the rules' number of a kind
unfoldable pub kind_number : Kind → ℕ
kind_number Generating = 1
kind_number Load = 2
kind_number Bidirectional = 3
kind_number SemiScheduled = 4

-- the kind with a number, and none for a number that is not listed
unfoldable pub kind_of : ℕ → Option Kind
kind_of number =
    cond (eqb number 1) (Some Generating)
    (cond (eqb number 2) (Some Load)
    (cond (eqb number 3) (Some Bidirectional)
    (cond (eqb number 4) (Some SemiScheduled) None)))

-- a number and what it is read as: the kind with that number, or that it is no kind's
abbrev pub Decodes : ℕ → Result Kind UnknownKind → Type 0
Decodes number r = MatchResult r (λ kind. kind_of number ≡ Some kind) (λ e. (kind_of number ≡ None) × (e.0 ≡ number))

-- kind 4: "semi-scheduled generating units" (02, 2026-01)
abbrev pub is_semi_scheduled : Option Kind → Bool
is_semi_scheduled (Some Generating) = false
is_semi_scheduled (Some Load) = false
is_semi_scheduled (Some Bidirectional) = false
is_semi_scheduled (Some SemiScheduled) = true
is_semi_scheduled None = false
