use Rattle.std.{proofs.Common.{sym, subst, ◌∙◌, ap}, specs.{Prelude.{All}, List.{fold}}}
use Rattle.sh_sheet.specs.Sheet.{IsLawfulItem}
use Rattle.sh_replay.{specs.{Course.{given_by}, Served.{IsGiven}}, proofs.ServeLemmas.{given_all, given_laid, setting_is}}
use Rattle.sh_replay.proofs.serve.world_of.Goals as goal

pub returns : goal.returns
returns c =
    let p = c.args.cfg.now.parts in
    let sheet = c.args.sheet.now.items in
    let g : IsGiven p sheet c.give_all.new.world = record { laid = c.lay.new.self.words; are_laid = c.in_ok-lay.ensures.laid; is = c.in_ok-give_all.ensures ∙ ap (fold given_by c.lay.new.self) c.as_slice.ensures ∙ ap (λ s. fold given_by s sheet) c.in_ok-lay.ensures.ok } in
    record {
      given = g;
      laid = given_laid p sheet c.give_all.new.world g c.args.cfg.now.lawful;
      calls = given_all p sheet c.give_all.new.world g c.requires.items;
      lawful = subst (λ p. All (IsLawfulItem p) sheet) (sym (setting_is p sheet c.give_all.new.world g)) c.requires.items;
    }
