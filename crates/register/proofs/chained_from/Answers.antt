use Rattle.std.proofs.Common.{rules}
use Rattle.register.proofs.Readings.{walked-6, walked-7, walked-30, walked-37, walked-sound, walked-accepted}
use Rattle.register.proofs.chained_from.Goals as goal

pub returns-then-walk : goal.returns-then-walk
returns-then-walk c = search (rules, walked-6)

pub returns-then-not-rest_ends : goal.returns-then-not-rest_ends
returns-then-not-rest_ends c = search (rules, walked-7)

pub returns-then-not-members_scheduled : goal.returns-then-not-members_scheduled
returns-then-not-members_scheduled c = search (rules, walked-30)

pub regions_shared-requires : goal.regions_shared-requires
regions_shared-requires c = search (rules, walked-sound)

pub returns-then-not-regions_shared : goal.returns-then-not-regions_shared
returns-then-not-regions_shared c = search (rules, walked-37)

pub returns : goal.returns
returns c = search (rules, walked-accepted)
