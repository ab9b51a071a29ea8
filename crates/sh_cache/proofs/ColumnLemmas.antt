-- A cache's columns after a row is replaced, put behind the others, or taken away.
use Rattle.std.{proofs.Common.{rules, ◌≡◌, ℕ, suc, ◌-◌, ◌<◌, ◌≤◌, List, [], ◌∷◌, ◌++◌, map, length, get_or, set, take, drop, sym, ap, ap₂, subst, ◌∙◌, length-append, arith}, specs.Prelude.{Some}}
use Rattle.std.{specs.List.{remove}, proofs.{Math.Seq.{map-set_same}, lemmas.List.{get_or_default, map-set, map-append, take-map, drop-map, length-set, Edits.{length-remove}}}}
use Rattle.sh_logic.proofs.Lists.{all_join, all_set, all_take, all_drop}
use Rattle.sh_lanes.specs.Scans.{LacksWord, IsFirst}
use Rattle.sh_image.specs.Inner.{Inner}
use Rattle.sh_cache.specs.{Cached.{found, HaveOwnLows}, Columns.{lows_of, no_row, row_in, rows_in, AreColumns, AreNumbers, AreSlots, IsCache, IsFoundAt}}
use Rattle.sh_cache.proofs.{RowLemmas.{apart_pushed, apart_remove, apart_replaced, no_low, replaced_is}, PlaceLemmas.{low_at}}
use Rattle.sh_cache.proofs.SlotLemmas.{length_rows, no_rows, numbers_slots, row_of, rows_push, rows_remove, rows_set, slots_moved}

abbrev pub HasLevel1 : Inner → Type 0
HasLevel1 r = r.level ≡ 1

map-remove : {X Y : Type 0} (f : X → Y) (xs : List X) (i : ℕ) → map f (remove xs i) ≡ remove (map f xs) i
map-remove f xs i = map-append f (take i xs) (drop (suc i) xs) ∙ ap₂ (λ ys zs. ys ++ zs) (sym (take-map f i xs)) (sym (drop-map f (suc i) xs))

module _ (lows highs : List ℕ) (rows : List Inner) (h : AreColumns lows highs rows) where
  columns_set : (at : ℕ) (a : Inner) → a.level ≡ 1 → IsFirst (lows_of rows) a.low at → AreColumns lows (set highs at a.high) (set rows at a)
  columns_set at a level first = record {
    low_fences = h.low_fences ∙ sym (map-set_same (λ (r : Inner). r.low) rows at a no_row (sym (sym (low_at rows at) ∙ first.here)));
    high_fences = ap (λ l. set l at a.high) h.high_fences ∙ sym (map-set (λ (r : Inner). r.high) rows at a);
    apart = subst HaveOwnLows (sym (replaced_is rows a at first)) (apart_replaced rows a h.apart);
    levels = all_set HasLevel1 rows at a h.levels level;
  }

  columns_push : (a : Inner) → a.level ≡ 1 → LacksWord (lows_of rows) a.low → AreColumns (lows ++ a.low ∷ []) (highs ++ a.high ∷ []) (rows ++ a ∷ [])
  columns_push a level none = record {
    low_fences = ap (λ l. l ++ a.low ∷ []) h.low_fences ∙ sym (map-append (λ (r : Inner). r.low) rows (a ∷ []));
    high_fences = ap (λ l. l ++ a.high ∷ []) h.high_fences ∙ sym (map-append (λ (r : Inner). r.high) rows (a ∷ []));
    apart = apart_pushed rows a (no_low rows a.low none) h.apart;
    levels = all_join HasLevel1 rows (a ∷ []) h.levels (level, tt);
  }

  columns_remove : (at : ℕ) → AreColumns (remove lows at) (remove highs at) (remove rows at)
  columns_remove at = search (rules, map-remove, apart_remove, all_join, all_take, all_drop)

module _ (room low_room high_room : ℕ) (lows highs slots : List ℕ) (images : List Inner) (h : IsCache room low_room high_room lows highs slots images) where
  abbrev rows : List Inner
  rows = rows_in images slots (length lows)

  pub as_many : length rows ≡ length lows
  as_many = length_rows images slots (length lows) (omega (arith, h.within, h.named.count))

  slot_is : (at slot : ℕ) → at < room → slot ≡ get_or slots at slot → slot ≡ get_or slots at 0
  slot_is at slot here is = is ∙ get_or_default slots at slot 0 (omega (arith, h.named.count))

  -- the image in the slot of a row that is found
  pub image_found : (at slot key : ℕ) (x : Inner) → IsFoundAt lows highs key (Some at) → slot ≡ get_or slots at slot → x ≡ get_or images slot x → Some x ≡ found rows key
  image_found at slot key x f is is_x =
      let here : at < room = omega (arith, f.in_range, h.within) in
      let named = slot_is at slot here is in
      let inside : slot < length images = omega (arith, named, h.named.within at 0 (omega (arith, h.named.count)), h.filled) in
      ap Some (is_x ∙ get_or_default images slot x no_row inside ∙ ap (row_in images) named ∙ sym (row_of images slots (length lows) at no_row f.in_range (omega (arith, h.within, h.named.count))))
      ∙ f.row rows h.columns.low_fences h.columns.high_fences

  pub set_rows : (at slot : ℕ) (a b : Inner) → IsFirst (lows_of rows) a.low at → slot ≡ get_or slots at slot → b ≡ a → rows_in (set images slot b) slots (length lows) ≡ set rows at a
  set_rows at slot a b first is same = search (rules, slot_is, as_many, rows_set)

  pub cache_set : (at slot high : ℕ) (a b : Inner) → a.level ≡ 1 → IsFirst (lows_of rows) a.low at → slot ≡ get_or slots at slot → high ≡ a.high → b ≡ a → IsCache room low_room high_room lows (set highs at high) slots (set images slot b)
  cache_set at slot high a b level first is is_high same = record {
    reserved = h.reserved;
    within = h.within;
    named = h.named;
    filled = length-set images slot b ∙ h.filled;
    columns = subst (AreColumns lows (set highs at high)) (sym (set_rows at slot a b first is same)) (subst (λ n. AreColumns lows (set highs at n) (set rows at a)) (sym is_high) (columns_set lows highs rows h.columns at a level first));
  }

  pub push_rows : (at slot low : ℕ) (news : List ℕ) (a b : Inner) → length rows < room → at ≡ length lows → slot ≡ get_or slots at slot → news ≡ lows ++ low ∷ [] → b ≡ a → rows_in (set images slot b) slots (length news) ≡ rows ++ a ∷ []
  push_rows at slot low news a b less last is now same = search (rules, slot_is, as_many, length-append, rows_push)

  pub cache_push : (low_room2 high_room2 at slot : ℕ) (newl newh : List ℕ) (a b : Inner) → (room ≤ low_room2) × (room ≤ high_room2) → a.level ≡ 1 → LacksWord (lows_of rows) a.low → length rows < room → at ≡ length lows → slot ≡ get_or slots at slot → newl ≡ lows ++ a.low ∷ [] → newh ≡ highs ++ a.high ∷ [] → b ≡ a → IsCache room low_room2 high_room2 newl newh slots (set images slot b)
  cache_push low_room2 high_room2 at slot newl newh a b reserved level none less last is now_low now_high same = record {
    reserved = reserved;
    within = omega (arith, ap length now_low, length-append lows (a.low ∷ []), as_many);
    named = h.named;
    filled = length-set images slot b ∙ h.filled;
    columns = subst (AreColumns newl newh) (sym (push_rows at slot a.low newl a b less last is now_low same)) (subst (λ (ls : List ℕ). AreColumns ls newh (rows ++ a ∷ [])) (sym now_low) (subst (λ (hs : List ℕ). AreColumns (lows ++ a.low ∷ []) hs (rows ++ a ∷ [])) (sym now_high) (columns_push lows highs rows h.columns a level none)));
  }

  pub remove_rows : (at slot : ℕ) (newl news : List ℕ) → at < length rows → newl ≡ remove lows at → news ≡ remove slots at ++ slot ∷ [] → rows_in images news (length newl) ≡ remove rows at
  remove_rows at slot newl news here now_low now =
      let count : length newl ≡ length lows - 1 = omega (arith, ap length now_low, length-remove lows at (omega (arith, as_many))) in
      ap₂ (λ (ss : List ℕ) (n : ℕ). rows_in images ss n) now count
      ∙ rows_remove room images slots h.named h.filled (length lows) h.within at slot (omega (arith, as_many))

  pub cache_remove : (low_room2 high_room2 at slot : ℕ) (newl newh news : List ℕ) → (room ≤ low_room2) × (room ≤ high_room2) → at < length rows → slot ≡ get_or slots at slot → newl ≡ remove lows at → newh ≡ remove highs at → news ≡ remove slots at ++ slot ∷ [] → IsCache room low_room2 high_room2 newl newh news images
  cache_remove low_room2 high_room2 at slot newl newh news reserved here is now_low now_high now = record {
    reserved = reserved;
    within = omega (arith, ap length now_low, length-remove lows at (omega (arith, as_many)), h.within);
    named = subst (AreSlots room) (sym now) (slots_moved room slots at slot h.named (omega (arith, as_many, h.within)) (slot_is at slot (omega (arith, as_many, h.within)) is));
    filled = h.filled;
    columns = subst (AreColumns newl newh) (sym (remove_rows at slot newl news here now_low now)) (subst (λ (ls : List ℕ). AreColumns ls newh (remove rows at)) (sym now_low) (subst (λ (hs : List ℕ). AreColumns (remove lows at) hs (remove rows at)) (sym now_high) (columns_remove lows highs rows h.columns at)));
  }

-- a cache without rows
pub cache_empty : (room low_room high_room : ℕ) (slots : List ℕ) (images : List Inner) → (room ≤ low_room) × (room ≤ high_room) → AreNumbers room slots → length images ≡ room → IsCache room low_room high_room [] [] slots images
cache_empty room low_room high_room slots images reserved numbers filled = search (rules, numbers_slots, no_rows)
