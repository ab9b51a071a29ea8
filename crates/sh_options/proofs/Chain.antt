-- One more rule in the command.
use Rattle.std.{proofs.{Common.{◌≡◌, ◌<◌, ◌+◌, ◌++◌, [], ◌∷◌, ℕ, List, map, take, get_or, ap, ◌∙◌, length, sym}, lemmas.List.{map-append, append_assoc, take_more}}, specs.Borrow.{Bor}}
use Rattle.clap.specs.Words.{App, Rule, with_rule}
use Rattle.sh_options.specs.Command.{app_with}

pub rule_added : (f : List ℕ → Rule) (front : List Rule) (names : List (Bor (List ℕ))) (i : ℕ) (d : Bor (List ℕ)) (a b : App) → i < length names
    → a ≡ app_with (front ++ map f (map (λ w. w.now) (take i names))) → b ≡ with_rule a (f (get_or names i d).now)
    → b ≡ app_with (front ++ map f (map (λ w. w.now) (take (i + 1) names)))
unfolding app_with
rule_added f front names i d a b lt at is =
    let xs = take i names in
    let x = get_or names i d in
    let more : take (i + 1) names ≡ xs ++ x ∷ [] = take_more names i d lt in
    is ∙ ap (λ y. with_rule y (f x.now)) at ∙ ap app_with (append_assoc front (map f (map (λ w. w.now) xs)) (f x.now ∷ [])
    ∙ ap (λ t. front ++ t) (sym (map-append f (map (λ (w : Bor (List ℕ)). w.now) xs) (x.now ∷ [])) ∙ ap (map f) (sym (map-append (λ (w : Bor (List ℕ)). w.now) xs (x ∷ [])) ∙ ap (map (λ (w : Bor (List ℕ)). w.now)) (sym more))))
