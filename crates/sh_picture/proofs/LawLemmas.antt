-- A picture reads back; and of a tree's picture no place says that it isn't lawful.
use Rattle.std.specs.Prelude.{slice_index}
use Rattle.std.proofs.Common.{rules, ◌≡◌, ℕ, ◌+◌, ◌*◌, ◌^◌, ◌<◌, List, [], ◌∷◌, ◌++◌, None, Some, length, map, drop, refl, sym, ap, subst, ◌∙◌, length-append, append_assoc, arith}
use Rattle.std.{specs.{List.{flat_map, AllByRecursion}, FinMap.{entries}}, proofs.lemmas.List.{append-nil, drop_at, get_or_append_left}}
use Rattle.byteorder.specs.{Endian.{big_bytes, big_number}, Numbers.{big_number-reads_back, length-bytes_high_first}}
use Rattle.sh_logic.proofs.Lists.{from_each}
use Rattle.sh_base.{specs.{declared.config.ConfigParts.{ConfigParts}, Setting.{pool_words, IsRanged, IsSetting}, Faults.{fault_of}}, proofs.FaultLemmas.{size_decides}}
use Rattle.sh_map.specs.{Map.{row_pair}, declared.book.Row.{Row}}
use Rattle.sh_tree.{specs.Tree.{leaves_of, map_in, IsTree}, proofs.ChainLemmas.{trees_are_one}}
use Rattle.sh_picture.specs.declared.{place.FirstPlace.{FirstPlace, TheVariants.{Short, Magic, Setting, Length, Zero, Lock, Root, Chain, Pair, Twice}}, verdict.Verdict.{Verdict}}
use Rattle.sh_picture.specs.{Picture.{header_of, magic, number_in, numbers_spelled, setting_numbers, parts_spelled, picture_of, words_in}}
use Rattle.sh_picture.specs.{Walk.{IsWalked}, Tree.{AllLead, AllOnce, IsFirstAstray, IsFirstTwice}, Fault.{IsFirstPlace, IsIdle, IsPoolFault}, Verdict.{HasMapOf, IsTreePicture, VerdictOf}}
use Rattle.sh_picture.proofs.{PictureLemmas.{header_long, words_long}, WalkLemmas.{walked_one, walked_stops}, TreeLemmas.{tree_walked, IsWalkedTree}}

-- ---- numbers that were written are read
pub numbers_again : (width : ℕ) (numbers rest : List ℕ) → AllByRecursion (λ x. x < 256 ^ width) numbers → numbers_spelled width (length numbers) (flat_map (big_bytes width) numbers ++ rest) ≡ numbers
numbers_again width [] rest h = refl
numbers_again width (x ∷ numbers) rest h =
    let behind = flat_map (big_bytes width) numbers ++ rest in
    let whole : flat_map (big_bytes width) (x ∷ numbers) ++ rest ≡ big_bytes width x ++ behind = append_assoc (big_bytes width x) (flat_map (big_bytes width) numbers) rest in
    let head : big_number width (flat_map (big_bytes width) (x ∷ numbers) ++ rest) ≡ x = ap (big_number width) whole ∙ big_number-reads_back width x behind h.0 in
    let left : drop width (flat_map (big_bytes width) (x ∷ numbers) ++ rest) ≡ behind = ap (drop width) whole ∙ drop_at (big_bytes width x) behind width (length-bytes_high_first width x) in
    let tail : numbers_spelled width (length numbers) (drop width (flat_map (big_bytes width) (x ∷ numbers) ++ rest)) ≡ numbers = ap (numbers_spelled width (length numbers)) left ∙ numbers_again width numbers rest h.1 in
    λ t. head t ∷ tail t

small_numbers : (p : ConfigParts) → IsRanged p → AllByRecursion (λ x. x < 4294967296) (setting_numbers p)
small_numbers p r = (omega (arith, r.servers), (omega (arith, r.chunks), (omega (arith, r.chunk_nodes), (omega (arith, r.locks), (omega (arith, r.leaf), (omega (arith, r.computes), (omega (arith, r.seats), (omega (arith, r.bound), (omega (arith, r.bits), (omega (arith, r.rows), (omega (arith, r.cached), (omega (arith, r.value_words), tt))))))))))))

-- the setting with these numbers
parts_from : List ℕ → ConfigParts
parts_from l = record {
  servers = slice_index l 0;
  chunks = slice_index l 1;
  chunk_nodes = slice_index l 2;
  locks = slice_index l 3;
  leaf = slice_index l 4;
  computes = slice_index l 5;
  seats = slice_index l 6;
  bound = slice_index l 7;
  bits = slice_index l 8;
  rows = slice_index l 9;
  cached = slice_index l 10;
  value_words = slice_index l 11;
}

parts_read : (bytes : List ℕ) → parts_spelled bytes ≡ parts_from (numbers_spelled 4 12 (drop 8 bytes))
unfolding number_in parts_from
parts_read bytes = refl

parts_back : (p : ConfigParts) → parts_from (setting_numbers p) ≡ p
unfolding parts_from
parts_back p = refl

behind_magic : (p : ConfigParts) (words : List ℕ) → drop 8 (picture_of p words) ≡ flat_map (big_bytes 4) (setting_numbers p) ++ flat_map (big_bytes 8) words
unfolding header_of
behind_magic p words = refl

pub parts_again : (p : ConfigParts) (words : List ℕ) → IsSetting p → parts_spelled (picture_of p words) ≡ p
parts_again p words h =
    parts_read (picture_of p words)
    ∙ ap (λ l. parts_from (numbers_spelled 4 12 l)) (behind_magic p words)
    ∙ ap parts_from (numbers_again 4 (setting_numbers p) (flat_map (big_bytes 8) words) (small_numbers p h.ranged))
    ∙ parts_back p

pub words_again : (p : ConfigParts) (words : List ℕ) → IsSetting p → length words ≡ pool_words p → ((i : ℕ) → slice_index words i < 2 ^ 64) → words_in (picture_of p words) ≡ words
unfolding words_in
words_again p words h long small =
    let count : pool_words (parts_spelled (picture_of p words)) ≡ length words = ap pool_words (parts_again p words h) ∙ sym long in
    let behind : drop 56 (picture_of p words) ≡ flat_map (big_bytes 8) words ++ [] = drop_at (header_of p) (flat_map (big_bytes 8) words) 56 (header_long p) ∙ sym (append-nil (flat_map (big_bytes 8) words)) in
    (λ t. numbers_spelled 8 (count t) (behind t)) ∙ numbers_again 8 words [] (from_each (λ x. x < 18446744073709551616) 0 words (λ i lt. small i))

-- ---- of a tree's picture no place says that it isn't lawful
module _ (p : ConfigParts) (words : List ℕ) (levels : List (List ℕ)) (idle : IsIdle p words) (tree : IsTree p words levels) where
  good : IsWalkedTree p words levels
  good = tree_walked p words levels tree

  no_astray : (ls : List (List ℕ)) (node index : ℕ) → IsWalked p words ls → IsFirstAstray p words ls node index → ⊥
  no_astray ls node index w h =
      let same : levels ≡ ls = walked_one p words levels ls good.walked w in
      let lead : AllLead p words ls = subst (AllLead p words) same good.lead in
      h.level.here (lead h.d (omega (arith, h.level.below)))

  no_twice : (ls : List (List ℕ)) (node key : ℕ) → IsWalked p words ls → IsFirstTwice p words (leaves_of ls) node key → ⊥
  no_twice ls node key w h =
      let same : levels ≡ ls = walked_one p words levels ls good.walked w in
      let once : AllOnce p words (leaves_of ls) = subst (λ (l : List (List ℕ)). AllOnce p words (leaves_of l)) same good.once in
      h.leaf.here (once h.place h.leaf.below)

  no_fault : (place : FirstPlace) → IsPoolFault p words place → ⊥
  no_fault Short h = h.1
  no_fault (Magic at) h = h.1
  no_fault (Setting fault) h = h.1
  no_fault (Length len) h = h.1
  no_fault Zero h = h idle.zero
  no_fault (Lock lock) h = h.1.here (idle.locks lock h.1.below)
  no_fault Root h = h.1 good.root
  no_fault (Chain level node) h = walked_stops p words levels level node good.walked h.1.1
  no_fault (Pair node index) h = no_astray h.1.1.0 node index h.1.1.1 h.1.1.2
  no_fault (Twice node key) h = no_twice h.1.1.0 node key h.1.1.1 h.1.1.3

module _ (p : ConfigParts) (words : List ℕ) (levels : List (List ℕ)) (setting : IsSetting p) (long : length words ≡ pool_words p) (small : (i : ℕ) → slice_index words i < 2 ^ 64) (idle : IsIdle p words) (tree : IsTree p words levels) where
  parts_are : parts_spelled (picture_of p words) ≡ p
  parts_are = parts_again p words setting

  picture_long : length (picture_of p words) ≡ 56 + 8 * pool_words p
  picture_long = length-append (header_of p) (flat_map (big_bytes 8) words) ∙ omega (arith, header_long p, words_long words, long)

  magic_is : (i : ℕ) → i < 8 → slice_index (picture_of p words) i ≡ slice_index magic i
  unfolding header_of
  magic_is i below =
      get_or_append_left (header_of p) (flat_map (big_bytes 8) words) 0 i (omega (arith, below, header_long p))
      ∙ get_or_append_left magic (flat_map (big_bytes 4) (setting_numbers p)) 0 i below

  no_pool : (place : FirstPlace) → IsPoolFault (parts_spelled (picture_of p words)) (words_in (picture_of p words)) place → ⊥
  no_pool place h =
      no_fault p words levels idle tree place (subst (λ (ws : List ℕ). IsPoolFault p ws place) (words_again p words setting long small) (subst (λ (q : ConfigParts). IsPoolFault q (words_in (picture_of p words)) place) parts_are h))

  pub no_place : (place : FirstPlace) → IsFirstPlace (picture_of p words) place → ⊥
  no_place Short h = omega (arith, h, picture_long)
  no_place (Magic at) h = h.1.here (magic_is at h.1.below)
  no_place (Setting fault) h =
      let none : fault_of p ≡ None = (size_decides p setting.ranged).0 setting.size in
      let some : fault_of p ≡ Some fault = ap fault_of (sym parts_are) ∙ h.1 in
      absurd (let bad : None ≡ Some fault = sym none ∙ some in cc)
  no_place (Length len) h = h.2 (h.1 ∙ picture_long ∙ ap (λ q. 56 + 8 * pool_words q) (sym parts_are))
  no_place Zero h = no_pool Zero h.1
  no_place (Lock lock) h = no_pool (Lock lock) h.1
  no_place Root h = no_pool Root h.1
  no_place (Chain level node) h = no_pool (Chain level node) h.1
  no_place (Pair node index) h = no_pool (Pair node index) h.1
  no_place (Twice node key) h = no_pool (Twice node key) h.1

  same_map : (q : ConfigParts) (rows : List Row) → IsTreePicture (picture_of p words) q rows → (q ≡ p) × (map row_pair rows ≡ entries (map_in p words levels))
  same_map q rows h =
      let parts : q ≡ p = sym (parts_again q h.words h.setting) ∙ ap parts_spelled (sym h.picture) ∙ parts_are in
      let words_are : h.words ≡ words = sym (words_again q h.words h.setting h.long h.small) ∙ ap words_in (sym h.picture) ∙ words_again p words setting long small in
      let there : IsTree p words h.levels = subst (λ (ws : List ℕ). IsTree p ws h.levels) words_are (subst (λ (r : ConfigParts). IsTree r h.words h.levels) parts h.tree) in
      let same : h.levels ≡ levels = trees_are_one p words h.levels levels there tree in
      (parts, h.rows_are ∙ (λ t. entries (map_in (parts t) (words_are t) (same t))))

  pub lawful_verdict : (verdict : Verdict) → VerdictOf (picture_of p words) verdict → HasMapOf p words levels verdict
  lawful_verdict verdict h = search (rules, same_map, no_place)

pub lawful_alone : (bytes : List ℕ) (p : ConfigParts) (rows : List Row) (place : FirstPlace) → IsTreePicture bytes p rows → IsFirstPlace bytes place → ⊥
lawful_alone bytes p rows place h k = search (rules, no_place)
