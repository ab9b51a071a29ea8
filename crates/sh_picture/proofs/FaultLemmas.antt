-- A place among the levels is one of the pool, and a place of the pool is one of the bytes.
use Rattle.std.{specs.{Prelude.{slice_index, MatchOption}, FinMap.{entries}}, proofs.Common.{rules, ◌≡◌, ◌∙◌, ◌<◌, ◌^◌, ℕ, List, Option, Some, None, length, map, drop, sym, ap, subst}}
use Rattle.sh_base.specs.{Setting.{pool_words, IsSetting}, declared.config.ConfigParts.{ConfigParts}}
use Rattle.sh_map.specs.{Map.{row_pair}, declared.book.Row.{Row}}
use Rattle.sh_tree.specs.Tree.{map_in, IsTree}
use Rattle.sh_picture.specs.{Picture.{numbers_spelled, parts_spelled, picture_of, words_in}, Verdict.{IsGoodPool, IsTreePicture}}
use Rattle.sh_picture.{proofs.PictureLemmas.{numbers_long, picture_back, words_is, words_small, AreBytes}, specs.Fault.{HasWords, IsFirstPlace, IsPoolFault}}
use Rattle.sh_picture.specs.declared.place.FirstPlace.{FirstPlace}

pub of_pool : (bytes : List ℕ) (place : FirstPlace) → HasWords bytes → IsPoolFault (parts_spelled bytes) (words_in bytes) place → IsFirstPlace bytes place
of_pool bytes place w h = search rules

-- what the code found in the words is so of the bytes
pub refused_of : (bytes : List ℕ) (p : ConfigParts) (words : List ℕ) (found : Option FirstPlace) (place : FirstPlace) → found ≡ Some place → HasWords bytes × (p ≡ parts_spelled bytes) → words ≡ numbers_spelled 8 (pool_words p) (drop 56 bytes) → MatchOption found (IsGoodPool p words) (λ x. IsPoolFault p words x) → IsFirstPlace bytes place
refused_of bytes p words found place is w e m = search (rules, of_pool, words_is)

pub lawful_of : (bytes : List ℕ) (p : ConfigParts) (words other : List ℕ) (found : Option FirstPlace) (rows : List Row) → AreBytes bytes → IsSetting p → HasWords bytes × (p ≡ parts_spelled bytes) → words ≡ numbers_spelled 8 (pool_words p) (drop 56 bytes) → other ≡ words → found ≡ None → MatchOption found (IsGoodPool p words) (λ x. IsPoolFault p words x) → ((levels : List (List ℕ)) → IsTree p other levels → map row_pair rows ≡ entries (map_in p other levels)) → IsTreePicture bytes p rows
lawful_of bytes p words other found rows h setting w e same is m pairs =
    let good : IsGoodPool p words = subst (λ (o : Option FirstPlace). MatchOption o (IsGoodPool p words) (λ x. IsPoolFault p words x)) is m in
    record {
      words = words;
      levels = good.holds.levels;
      setting = setting;
      long = ap length e ∙ numbers_long 8 (pool_words p) (drop 56 bytes);
      small = subst (λ (ws : List ℕ). (i : ℕ) → slice_index ws i < 2 ^ 64) (sym e) (words_small (pool_words p) bytes h);
      picture = picture_back bytes h w.0 ∙ (λ t. picture_of (sym w.1 t) (sym (words_is bytes words p w.1 e) t));
      idle = good.idle;
      tree = good.holds.tree;
      rows_are = pairs good.holds.levels (subst (λ (ws : List ℕ). IsTree p ws good.holds.levels) (sym same) good.holds.tree) ∙ ap (λ ws. entries (map_in p ws good.holds.levels)) same;
    }
