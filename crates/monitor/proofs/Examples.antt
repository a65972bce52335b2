-- The worked examples hold, each by computing it. Assumes nothing.
use mathlib.Core.Path.{refl}
use mathlib.Core.Bool.{Bool}
use mathlib.Core.List.{List}
use Prim.Native.Nat.{ℕ}
use lib.Ieee.{of_bits, le}
use Rattle.std.specs.Prelude.{Option, Result}
use Rattle.trace.specs.Sweeps.{every, sweep, records}
use Rattle.wire.specs.Fields.{number_of, bytes_of, field_at}
use Rattle.kinds.specs.Kinds.{kind_of}
use Rattle.kinds.specs.declared.Kind.{Kind}
use Rattle.floats.specs.Kilowatts.{thousandfold}
use Rattle.floats.specs.Ranges.{within}
use Rattle.signed.specs.Floors.{floored}
use Rattle.telemetry.specs.Ranges.{allowed_target, bounded}
use Rattle.telemetry.specs.Lines.{allowed_head, allowed_bounds, allowed_readings, readable, readings_of, quality_in, fields_of, line_of, power_of}
use Rattle.telemetry.specs.declared.Fields.{Fields}
use Rattle.triggers.specs.Triggers.{direction_of, capability_of, rate_of, opposite, add_capability, trigger_of}
use Rattle.marks.specs.KeptLines.{kept_line, kept_from, kept_bounded}
use Rattle.marks.specs.Errors.{error_of, exceeds}
use Rattle.marks.specs.Hosts.{mark_number}
use Rattle.marks.specs.Assessments.{kilowatts_in, is_missing, is_doubtful, is_known, mark_of, judged}
use Rattle.marks.specs.Assessments.{unit_basis, known_assessment, readable_assessment, unit_assessment}
use Rattle.marks.specs.declared.Sight.{Sight}
use Rattle.marks.specs.declared.Assessment.{Assessment}
use Rattle.aggregates.specs.Aggregates.{add_signed, add_flags, add_present, add_kept, add_readable, add_unreadable, add_member}
use Rattle.aggregates.specs.Aggregates.{aggregate_basis, sums_assessment, aggregate_assessment}
use Rattle.targets.specs.Targets.{member_at, members_kept, target_over, target_of}
use Rattle.points.specs.Points.{longer, reason_of, counted, status_of, graded, is_counted, declares, settled, marked_by}
use Rattle.points.specs.Records.{record_of}
use Rattle.plants.specs.Plants.{shares_region, regions_shared}
use Rattle.plants.specs.Rosters.{entries, stretch_of, no_roster, kinds_known, regions_known, places_in, stretches_in, roster_sound}
use Rattle.chains.specs.Chains.{chain, members_of, all_members, times_in, met_at, chained_of, places_of, region_at, point_regions, plant_of}
use Rattle.chains.specs.Layouts.{start_at, count_at, flat_of, roster_of}
use Rattle.chains.specs.Rules.{indices_in, met_once, rest_ends, members_scheduled}
use Rattle.register.specs.Fields as register
use Rattle.register.specs.Registers.{lengths_rise, fields_known, accepted_as, chained_from, records_from, registered_of}
use Rattle.register.specs.declared.RegisterRefusal.{RegisterRefusal}
use Rattle.intervals.specs.Plants.{named, is_unidirectional_at}
use Rattle.intervals.specs.Assessments.{is_automatic, rule_of, line_at, is_fresh, sight_at, assessment_at}
use Rattle.intervals.specs.Monitors.{plant_in, sound_by, sound_of, begun}
use Rattle.intervals.specs.Intervals.{refusal_number, headed, judge_header, judge_interval, interval_verdict, assessment_in, point_after, record_after}
use Rattle.intervals.specs.Intervals.{kept_after, monitor_after, interval_of, report_of}
use Rattle.intervals.specs.declared.Monitor.{Monitor}
use Rattle.operators.specs.Operators.{allowed_level, permit, change, stored, operator_verdict, operated_of, looked_of, reasoned_of, targeted_of}
use Rattle.monitor.specs.Calls.{Call, Outcome, answer}
use Rattle.monitor.specs.Loading.{load_of}
use Rattle.monitor.specs.declared.Loaded.{Loaded}
use Rattle.monitor.specs.Examples.{Examples}

-- Each of these stands for the definitions that it computes with.

unfoldable pub loaded_of : List ℕ → Result Loaded RegisterRefusal
unfolding load_of registered_of records_from chained_from accepted_as fields_known lengths_rise every sweep records kind_of
    register.fields_of register.kinds_of register.regions_of register.nexts_of register.heads_of chain members_of all_members times_in met_at
    chained_of places_of region_at point_regions plant_of start_at count_at flat_of roster_of indices_in met_once rest_ends members_scheduled
    shares_region regions_shared kinds_known regions_known begun
loaded_of = load_of

read : Option Kind → Bool → List ℕ → Option Fields
unfolding line_of readable allowed_head allowed_target allowed_bounds allowed_readings bounded within le of_bits number_of field_at fields_of
    quality_in readings_of
read = line_of

assessed : Bool → Sight → Assessment
unfolding unit_assessment readable_assessment known_assessment is_missing is_doubtful kilowatts_in power_of thousandfold unit_basis judged mark_of
    floored error_of exceeds direction_of capability_of rate_of trigger_of
assessed = unit_assessment

summed : List Sight → Assessment
unfolding assessed is_known add_signed add_flags add_present add_kept add_readable add_unreadable add_member opposite add_capability
    aggregate_basis sums_assessment
summed = aggregate_assessment

unfoldable pub answered : Monitor → Call → Outcome
unfolding read assessed summed interval_of report_of monitor_after interval_verdict judge_interval judge_header headed sound_of sound_by roster_sound
    places_in stretches_in kinds_known regions_known kept_bounded plant_in no_roster stretch_of entries every sweep records kept_after kept_from
    kept_line line_at target_of target_over members_kept member_at is_automatic rule_of is_fresh sight_at assessment_at assessment_in point_after
    record_after record_of bytes_of mark_number marked_by settled counted longer declares is_counted reason_of graded status_of
    looked_of reasoned_of targeted_of operated_of operator_verdict permit change stored allowed_level is_unidirectional_at refusal_number named
answered = answer

pub examples : Examples
unfolding loaded_of answered
examples =
    record {
      program = refl;
      individual_units = refl;
      cap_aggregate = refl;
      mixed_aggregate = refl;
      target_aggregate = refl;
      sides_of_units = refl;
      sides_of_aggregate = refl;
      levels = refl;
      calls_and_refusals = refl;
      five_regions = refl;
      region_of_aggregate = refl;
    }
