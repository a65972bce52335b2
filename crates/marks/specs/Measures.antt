-- What a readable line comes to in whole kW, once for all that is made of it. How the code comes to it: nobody has to believe this.
use Rattle.telemetry.specs.Lines.{power_of}
use Rattle.telemetry.specs.declared.Fields.{Fields}
use Rattle.triggers.specs.Triggers.{unit_capability}
use Rattle.marks.specs.Assessments.{kilowatts_in}
use Rattle.marks.specs.declared.Measures.{Measures}

unfoldable pub measures_of : Fields → Measures
measures_of f = record { power = kilowatts_in (power_of f); capability = unit_capability f }
