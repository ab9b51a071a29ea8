-- Takers are made and taken in.
use Rattle.std.proofs.{Common.{◌≡◌, ℕ, zero, suc, ◌+◌, Option, List, [], ◌∷◌, ◌++◌, length, map, refl, ap, ◌∙◌, arith, append_assoc}, lemmas.List.{length-append}}
use Rattle.atomic_table.specs.Seated.{TableId}
use Rattle.sh_feed.specs.{declared.view.{Setup.{Setup}, View.{View}}, Views.{both, giver_view}, Feeds.{Taking, AllAt, IsTakenIn, fresh_takers, took_by}}

pub fresh_long : (z : TableId) (s : Option Setup) (n : ℕ) → length (fresh_takers z s n) ≡ n
fresh_long z s zero = refl
fresh_long z s (suc n) = let k = fresh_long z s n in let e = length-append (fresh_takers z s n) (record { feed = z; number = n; setup = s; took = [] } ∷ []) in omega (arith, k, e)

pub all_at_snoc : (z : TableId) (ts : List Taking) (t : Taking) → AllAt z (ts ++ t ∷ []) → AllAt z ts × (t.feed ≡ z)
all_at_snoc z [] t a = (tt, a.0)
all_at_snoc z (x ∷ ts) t a = let k = all_at_snoc z ts t a.1 in ((a.0, k.0), k.1)

pub taken_step : (all ts rest : List Taking) (t : Taking) (giver now next w : View) → ts ≡ rest ++ t ∷ [] → IsTakenIn all ts giver now → w.took ≡ t.took → w.parts ≡ 1 → next ≡ both now w → IsTakenIn all rest giver next
taken_step all ts rest t giver now next w is k took alone e =
    let parts : length k.done + 1 + w.parts ≡ length (t ∷ k.done) + 1 = omega (arith, alone) in
    record {
      done = t ∷ k.done;
      whole = k.whole ∙ ap (λ (l : List Taking). l ++ k.done) is ∙ append_assoc rest (t ∷ []) k.done;
      view = e ∙ ap (λ (v : View). both v w) k.view ∙ (λ i. giver_view giver.setup (parts i) giver.gave (took i ∷ map took_by k.done));
    }
