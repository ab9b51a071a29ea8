use Rattle.std.{proofs.{Common.{◌∙◌, ap, sym, true, false, arith}, lemmas.{List.{get_or_default}, Bool.{false≢true}}}, specs.Ordering.{nat_cmp}}
use Rattle.std.specs.BTreeMap as tree
use Rattle.sh_map.{specs.declared.log.Entry.{Entry}, proofs.OwnerLemmas.{owner_decides}}
use Rattle.sh_map.proofs.owners.has_owner.Goals as goal

pub returns-else-owned-at : goal.returns-else-owned-at
returns-else-owned-at c = owner_decides c.args.log.now c.args.dones.now c.args.owned.now c.args.lasts.now c.args.at c.index-log-at.result c.copied.result c.requires.within c.index-log-at.is c.requires.owned c.requires.lasts (λ yes. false≢true (sym c.if-owned-at.false ∙ get_or_default c.args.owned.now c.args.at false true (omega (arith, c.requires.within, c.requires.owned.long)) ∙ yes)) (c.copied.ensures ∙ c.get.ensures.value ∙ ap (λ (e : Entry). tree.get nat_cmp c.args.lasts.now e.seat) (sym c.index-log-at.is)) c.eq.result c.eq.ensures
