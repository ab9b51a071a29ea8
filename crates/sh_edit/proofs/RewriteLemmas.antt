-- A rewritten leaf meets the rules, keeps its keys apart, and holds the put or the del.
use Rattle.std.{proofs.Common.{rules, ◌≡◌, ◌≢◌, ◌⊎◌, ℕ, zero, suc, ◌<◌, ◌≤◌, List, [], ◌∷◌, length, map, replicate, refl, sym, ap, ◌∙◌, arith}, specs.Prelude.{◌==◌, if◌then◌else◌}}
use Rattle.std.{proofs.lemmas.List.{length-map, length-set}, specs.{List.{AllByRecursion}, FinMap.{from_entries}}}
use Rattle.sh_logic.proofs.Lists.{all_set}
use Rattle.sh_base.specs.{declared.config.ConfigParts.{ConfigParts}, Setting.{last_version}}
use Rattle.sh_map.specs.Map.{put, del}
use Rattle.sh_image.specs.{declared.leaf.LeafEntry.{LeafEntry}, Leaf.{Leaf, IsEntry, IsLeaf}}
use Rattle.sh_edit.specs.{Held.{pairs_of, map_of_entries, key_at, HasKeysOnce}, Placing.{IsFirstWith, LacksKey}, Rewriting.{cleared, rewritten}}
use Rattle.sh_edit.proofs.HeldLemmas.{over_is_put, new_is_put, removed_is_del, once-set}

pairs_of-cleared : (es : List LeafEntry) → pairs_of (map cleared es) ≡ pairs_of es
pairs_of-cleared [] = refl
pairs_of-cleared (e ∷ es) = ap (λ l. if e.key == 0 then l else (e.key, e.value) ∷ l) (pairs_of-cleared es)

map_of-cleared : (es : List LeafEntry) → map_of_entries (map cleared es) ≡ map_of_entries es
map_of-cleared es = ap from_entries (pairs_of-cleared es)

key_at-cleared : (es : List LeafEntry) (i : ℕ) → key_at (map cleared es) i ≡ key_at es i
key_at-cleared [] i = refl
key_at-cleared (e ∷ es) zero = refl
key_at-cleared (e ∷ es) (suc i) = key_at-cleared es i

first-cleared : (es : List LeafEntry) (key i : ℕ) → IsFirstWith es key i → IsFirstWith (map cleared es) key i
first-cleared es key i h = search (rules, length-map, key_at-cleared)

none-cleared : (es : List LeafEntry) (key : ℕ) → LacksKey es key → LacksKey (map cleared es) key
none-cleared es key h j below is = h j (omega (arith, below, length-map es cleared)) (sym (key_at-cleared es j) ∙ is)

once-cleared : (es : List LeafEntry) → HasKeysOnce es → HasKeysOnce (map cleared es)
once-cleared es h i j less below same = key_at-cleared es i ∙ h i j less (omega (arith, below, length-map es cleared)) (sym (key_at-cleared es i) ∙ same ∙ key_at-cleared es j)

-- a put over the key's entry, a put into an empty entry, and a delete
module _ (a : Leaf) (i key : ℕ) where
  pub rewritten_over : (value : List ℕ) → key ≢ 0 → IsFirstWith a.entries key i → map_of_entries (rewritten a i key value).entries ≡ put (map_of_entries a.entries) key value
  rewritten_over value nz at = over_is_put (map cleared a.entries) i _ nz (first-cleared a.entries key i at) ∙ ap (λ m. put m key value) (map_of-cleared a.entries)

  pub rewritten_new : (value : List ℕ) → key ≢ 0 → LacksKey a.entries key → IsFirstWith a.entries 0 i → map_of_entries (rewritten a i key value).entries ≡ put (map_of_entries a.entries) key value
  rewritten_new value nz none at = new_is_put (map cleared a.entries) i _ nz (none-cleared a.entries key none) (first-cleared a.entries 0 i at) ∙ ap (λ m. put m key value) (map_of-cleared a.entries)

  pub rewritten_removed : (zeros : List ℕ) → key ≢ 0 → HasKeysOnce a.entries → IsFirstWith a.entries key i → map_of_entries (rewritten a i 0 zeros).entries ≡ del (map_of_entries a.entries) key
  rewritten_removed zeros nz once at = removed_is_del (map cleared a.entries) i key _ refl nz (once-cleared a.entries once) (first-cleared a.entries key i at) ∙ ap (λ m. del m key) (map_of-cleared a.entries)

-- a leaf keeps its keys apart, where no other entry has the new key
pub rewritten_once : (a : Leaf) (i key : ℕ) (value : List ℕ) → i < length a.entries → HasKeysOnce a.entries → ((j : ℕ) → j < length a.entries → j ≢ i → key_at a.entries j ≡ key → key ≡ 0) → HasKeysOnce (rewritten a i key value).entries
rewritten_once a i key value below once apart = once-set (map cleared a.entries) i _ (omega (arith, length-map a.entries cleared)) (once-cleared a.entries once)
    (λ j in_range ne is. apart j (omega (arith, in_range, length-map a.entries cleared)) ne (sym (key_at-cleared a.entries j) ∙ is))

all_cleared : (p : ConfigParts) (low high : ℕ) (es : List LeafEntry) → AllByRecursion (IsEntry p low high) es → AllByRecursion (IsEntry p low high) (map cleared es)
all_cleared p low high [] h = tt
all_cleared p low high (e ∷ es) h = (record { value = h.0.value; version = omega arith; within = h.0.within }, all_cleared p low high es h.1)

pub rewritten_lawful : (p : ConfigParts) (a : Leaf) (i key : ℕ) (value : List ℕ) → IsLeaf p a → a.version < last_version p → length value ≡ p.value_words → ((key ≡ 0) × (value ≡ replicate p.value_words 0)) ⊎ ((a.low ≤ key) × (1 ≤ key) × (key < a.high)) → IsLeaf p (rewritten a i key value)
rewritten_lawful p a i key value h version words within = search (rules, length-set, length-map, all_set, all_cleared)
