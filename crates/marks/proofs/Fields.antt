-- Equal fields make equal records. Assumes nothing.
use mathlib.Core.Path.{◌≡◌}
use mathlib.Core.Bool.{Bool}
use Prim.Native.Nat.{ℕ}
use lib.IntN.{ℤ}
use Rattle.marks.specs.declared.Mark.{Mark}
use Rattle.marks.specs.declared.Basis.{Basis}
use Rattle.marks.specs.declared.Assessment.{Assessment}

pub assessment-is : {mark mark' : Mark} {error error' level level' : ℤ} {trigger trigger' : ℕ}
    → mark ≡ mark' → error ≡ error' → trigger ≡ trigger' → level ≡ level'
    → ◌≡◌ {A = Assessment} (record { mark = mark; error = error; trigger = trigger; level = level })
    (record { mark = mark'; error = error'; trigger = trigger'; level = level' })
assessment-is p q r s = rw (p, q, r, s)

pub basis-is : {power power' target target' up up' down down' : ℤ} {availability availability' rate rate' : ℕ}
    {doubtful doubtful' capped capped' unidirectional unidirectional' : Bool}
    → power ≡ power' → target ≡ target' → up ≡ up' → down ≡ down' → availability ≡ availability' → rate ≡ rate'
    → doubtful ≡ doubtful' → capped ≡ capped' → unidirectional ≡ unidirectional'
    → ◌≡◌ {A = Basis}
    (record {
      power = power;
      target = target;
      up = up;
      down = down;
      availability = availability;
      rate = rate;
      doubtful = doubtful;
      capped = capped;
      unidirectional = unidirectional;
    })
    (record {
      power = power';
      target = target';
      up = up';
      down = down';
      availability = availability';
      rate = rate';
      doubtful = doubtful';
      capped = capped';
      unidirectional = unidirectional';
    })
basis-is power target up down availability rate doubtful capped unidirectional =
    rw (power, target, up, down, availability, rate, doubtful, capped, unidirectional)
