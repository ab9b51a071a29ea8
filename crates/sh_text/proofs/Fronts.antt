-- A front of a text that is written part by part.
use Rattle.std.{proofs.{Common.{ℕ, ◌≡◌, ◌≢◌, ◌<◌, ◌+◌, length, List, Option, [], ◌++◌, take, drop, get_or, sym, ap, ◌∙◌}, lemmas.List.{drop_more, take-append-drop, Concat.{flat_map-append}}}, specs.{List.{flat_map}, Fmt.{decimal}, Prelude.{codes}}}
pub use Rattle.sh_port.proofs.Fronts.{front_first, front_more, front_behind}
use Rattle.sh_port.{specs.Port.{AppendsFront}, proofs.Fronts.{front_none, some_first, some_last}}
use Rattle.sh_map.specs.declared.{book.Row.{Row}, call.Call.{Call}}
use Rattle.sh_text.specs.{Text.{call_front, call_line, map_line, pending_line}, declared.{finished.Finished.{Finished}, points.Points.{Points}}}

-- lines have bytes
front_some : (n seat : ℕ) (call : Call) → call_front n seat call ≢ []
front_some n seat call = some_first _ _ (some_last (decimal n) (codes ",") (λ e. absurd (cc)))

pub call_unwritten : (a : Option (List ℕ)) (shown : Points) (d : Finished) → AppendsFront a a (call_line shown d)
unfolding call_line
call_unwritten a shown d = front_none a (call_line shown d) (some_first _ _ (front_some d.n d.seat d.call))

pub pending_unwritten : (a : Option (List ℕ)) (shown : Points) (n seat : ℕ) (call : Call) → AppendsFront a a (pending_line shown n seat call)
unfolding pending_line
pending_unwritten a shown n seat call = front_none a (pending_line shown n seat call) (some_first _ _ (front_some n seat call))

pub map_unwritten : (a : Option (List ℕ)) (r : Row) → AppendsFront a a (map_line r)
unfolding map_line
map_unwritten a r = front_none a (map_line r) (λ e. absurd (cc))

-- the texts before the one at i, and those from it on
pub parts_at : {X : Type 0} (f : X → List ℕ) (xs : List X) (i : ℕ) → flat_map f xs ≡ flat_map f (take i xs) ++ flat_map f (drop i xs)
parts_at f xs i = ap (flat_map f) (sym (take-append-drop i xs)) ∙ flat_map-append f (take i xs) (drop i xs)

-- the texts before the one at i, that one, and those after it
pub part_at : {X : Type 0} (f : X → List ℕ) (xs : List X) (i : ℕ) (d : X) → i < length xs → flat_map f xs ≡ flat_map f (take i xs) ++ (f (get_or xs i d) ++ flat_map f (drop (i + 1) xs))
part_at f xs i d h = parts_at f xs i ∙ ap (λ t. flat_map f (take i xs) ++ flat_map f t) (drop_more xs i d h)
