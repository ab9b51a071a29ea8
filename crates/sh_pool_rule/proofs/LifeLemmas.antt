-- A life grows with each turn, as its actor does.
use Rattle.std.{proofs.Common.{rules, ◌≡◌, ℕ, Bool, true, false, List, [], ◌∷◌, ◌++◌, refl, ap, sym, ◌∙◌, append-nil, subst}, specs.Prelude.{if◌then◌else◌, map, Option, None}}
use Rattle.sh_base.specs.declared.config.ConfigParts.{ConfigParts}
use Rattle.sh_map.specs.declared.{log.Entry.{Entry}, book.Done.{Done}}
use Rattle.sh_client.specs.{Machine.{Machine, fresh_machine}, Feeds.{begun, fed_by, turned_by}, Giving.{makes}, Rests.{has_ended, is_resting}, declared.state.Phase.{TheVariants.{Look}}}
use Rattle.sh_decide.specs.declared.state.Aim.{Aim}
use Rattle.sh_core.specs.{Actors.{Actor, actor_going, becomes, ending}}
use Rattle.sh_pool_rule.specs.{declared.view.Tiding.{Tiding, TheVariants.{CallTold, TurnTold, WordTold}}, Lives.{call_end, end_if, end_told, lived, CallEnd, HasLived}}
use Rattle.sh_pool_rule.specs.Untold.{UntoldTurn, CallBegun, WordAnswered, TurnServed, caught_up, life_with, untold_after, MayTakeAll}

pub becomes_client : (k : ℕ) (a : Actor) (log more : List Entry) (m : Machine) → (becomes k a log more m).client ≡ m
becomes_client k a log more m = search rules

ends_snoc : (ds : List Done) (d : Done) → map end_told (ds ++ d ∷ []) ≡ map end_told ds ++ end_told d ∷ []
ends_snoc [] d = refl
ends_snoc (x ∷ ds) d = ap (λ (es : List CallEnd). end_told x ∷ es) (ends_snoc ds d)

becomes_ends : (k : ℕ) (a : Actor) (log more : List Entry) (m : Machine) (t : Bool) → map end_told (if t then ending k a log m else actor_going a log more m).dones ≡ map end_told a.dones ++ (if t then call_end m ∷ [] else [])
becomes_ends k a log more m t = search (rules, ends_snoc, append-nil)

module _ (p : ConfigParts) (k : ℕ) where
  abbrev M : Machine
  M = fresh_machine p k

  pub word_lives : (life : List Tiding) (a : Actor) (log : List Entry) (word : ℕ) → is_resting a.client ≡ false → HasLived p k life a → HasLived p k (WordTold word ∷ life) (becomes k a log (makes a.client) (fed_by a.client word))
  word_lives life a log word busy h = search (rules, becomes_client, becomes_ends)

  pub turn_lives : (life : List Tiding) (a : Actor) (log : List Entry) (depth : Option ℕ) (aim : Aim) (node : ℕ) → a.client.phase ≡ Look aim node → HasLived p k life a → HasLived p k (TurnTold depth ∷ life) (becomes k a log [] (turned_by a.client depth))
  turn_lives life a log depth aim node looks h =
      let m : Machine = turned_by a.client depth in
      let is : m ≡ turned_by (lived M life) depth = ap (λ (x : Machine). turned_by x depth) h.client in
      record {
        client = becomes_client k a log [] m ∙ is;
        ends = becomes_ends k a log [] m (has_ended m.phase) ∙ (λ z. h.ends z ++ end_if (is z));
        may = ((aim, node, ap (λ (x : Machine). x.phase) (sym h.client) ∙ looks), h.may);
      }

  pub untold_lives : (seen : List Entry) (life : List Tiding) (a : Actor) (us : List UntoldTurn) → MayTakeAll p k seen a us → HasLived p k life a → HasLived p k (life_with us life) (caught_up k seen a us)
  untold_lives seen life a [] may h = h
  untold_lives seen life a (CallBegun call ∷ us) may h = untold_lives seen (CallTold call ∷ life) (untold_after k seen a (CallBegun call)) us may.1 record { client = ap (λ (x : Machine). begun x call) h.client; ends = h.ends; may = ((subst (λ (x : Machine). is_resting x ≡ true) h.client may.0.0, may.0.1), h.may) }
  untold_lives seen life a (WordAnswered word ∷ us) may h = untold_lives seen (WordTold word ∷ life) (untold_after k seen a (WordAnswered word)) us may.1 (word_lives life a seen word (search rules) h)
  untold_lives seen life a (TurnServed ∷ us) may h = untold_lives seen (TurnTold None ∷ life) (untold_after k seen a TurnServed) us may.1 (turn_lives life a seen None may.0.0 may.0.1 may.0.2 h)
