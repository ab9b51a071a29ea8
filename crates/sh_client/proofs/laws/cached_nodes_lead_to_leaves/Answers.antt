use Rattle.sh_client.proofs.{CachedLemmas.{begins_by, fed_learns, turned_learns}, ShownLemmas.{fed_forgets, fed_keeps_shown, fed_shows, fed_stays}}
use Rattle.sh_client.proofs.laws.cached_nodes_lead_to_leaves.Goals as goal

pub returns-clause-begin : goal.returns-clause-begin
returns-clause-begin c = begins_by

pub returns-clause-fed : goal.returns-clause-fed
returns-clause-fed c = fed_learns

pub returns-clause-turned : goal.returns-clause-turned
returns-clause-turned c = turned_learns

pub returns-clause-shown : goal.returns-clause-shown
returns-clause-shown c = fed_shows

pub returns-clause-kept : goal.returns-clause-kept
returns-clause-kept c = fed_keeps_shown

pub returns-clause-stays : goal.returns-clause-stays
returns-clause-stays c = fed_stays

pub returns-clause-stale : goal.returns-clause-stale
returns-clause-stale c = fed_forgets
