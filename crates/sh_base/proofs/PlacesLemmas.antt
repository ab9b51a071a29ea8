-- Places and addresses are the same, one to one.
use Rattle.std.proofs.Common.{rules, ◌≡◌, ℕ, ◌+◌, ◌-◌, ◌*◌, ◌/◌, ◌%◌, ◌<◌, ◌≤◌, List, set, eqb, ltb, if◌then◌else◌, refl, sym, ap, ◌∙◌, inl, inr, arith}
use Rattle.std.proofs.lemmas.{Nat.{div_below, mod_below, div-add-mod', div-mul-add, mod-mul-add}, List.{get_or-set_other}, Bool.{cases_lt, cases_eq, Decides.{nat_tests}}}
use Rattle.sh_base.specs.{declared.config.ConfigParts.{ConfigParts}, Setting.{nodes, node_size, first_node_word, pool_words}, Layout.{node_word, node_part}}
use Rattle.sh_base.specs.Places.{Site, Own, Root, Counter, Lock, Node, address, IsSite, ArePlacesApart, IsBelowNodes, StoresKeepApart}
use Rattle.sh_base.proofs.LayoutLemmas.{node_word_high, node_size_is, part_other_node, part_below, part_same_node, entry_other, entry_own, entry_header, entry_rear}

-- the place of an address
place_at : ConfigParts → ℕ → Site
place_at p i = if eqb i 0 then Own else if eqb i 1 then Root else if ltb i (2 + p.servers) then Counter (i - 2) else if ltb i (first_node_word p) then Lock (i - 2 - p.servers) else Node ((i - first_node_word p) / node_size p + 1) ((i - first_node_word p) % node_size p)

module _ (p : ConfigParts) where
  place_of_node : (n offset : ℕ) → 1 ≤ n → offset < node_size p → place_at p (node_word p n + offset) ≡ Node n offset
  unfolding place_at node_word
  place_of_node n offset low below =
      let row = div-mul-add (n - 1) (node_size p) offset below in
      let column = mod-mul-add (n - 1) (node_size p) offset below in
      let e : first_node_word p + (n - 1) * node_size p + offset - first_node_word p ≡ (n - 1) * node_size p + offset = omega arith in
      let back : n - 1 + 1 ≡ n = omega arith in
      grind (arith, nat_tests, e, row, column, back)

  place_at_address : (a : Site) → IsSite p a → place_at p (address p a) ≡ a
  unfolding place_at
  place_at_address Own h = refl
  place_at_address Root h = refl
  place_at_address (Counter server) h = grind (arith, nat_tests)
  place_at_address (Lock lock) h = grind (arith, nat_tests)
  place_at_address (Node n offset) h = place_of_node n offset h.0.first h.1

  within : (a : Site) → IsSite p a → address p a < pool_words p
  unfolding pool_words
  within Own h = omega arith
  within Root h = omega arith
  within (Counter server) h = omega arith
  within (Lock lock) h = omega arith
  within (Node n offset) h = omega (arith, node_word_high p n h.0)

  node_word_of_row : (row offset i : ℕ) → first_node_word p + row * node_size p + offset ≡ i → node_word p (row + 1) + offset ≡ i
  unfolding node_word
  node_word_of_row row offset i e = let one : row + 1 - 1 ≡ row = omega arith in rw one e

  whole : (i : ℕ) → i < pool_words p → (a : Site) × IsSite p a × (address p a ≡ i)
  unfolding pool_words node_word
  whole i h = elim (cases_lt i (first_node_word p)) [
    | inr behind ↦
        let size : 0 < node_size p = omega (arith, node_size_is p) in
        let row : (i - first_node_word p) / node_size p < nodes p = div_below (i - first_node_word p) (node_size p) (nodes p) size (omega arith) in
        let back = λ (e : first_node_word p + (i - first_node_word p) / node_size p * node_size p + (i - first_node_word p) % node_size p ≡ i). node_word_of_row _ _ i e in
        let again = div-add-mod' (i - first_node_word p) (node_size p) in
        (Node ((i - first_node_word p) / node_size p + 1) ((i - first_node_word p) % node_size p), (record { first = omega arith; last = omega arith }, mod_below _ _ size), back (omega (arith, again)))
    | inl before ↦ elim (cases_lt i (2 + p.servers)) [
      | inr locks ↦ (Lock (i - 2 - p.servers), omega arith, omega arith)
      | inl counters ↦ elim (cases_lt i 2) [
        | inr counter ↦ (Counter (i - 2), omega arith, omega arith)
        | inl small ↦ elim (cases_eq i 0) [ inl zero_is ↦ (Own, tt, omega arith) | inr not_zero ↦ (Root, tt, omega arith) ]
      ]
    ]
  ]

  pub are_places_apart : ArePlacesApart p
  are_places_apart = record {
    within = within;
    apart = λ a b h k e. sym (place_at_address a h) ∙ ap (place_at p) e ∙ place_at_address b k;
    whole = whole;
  }

  part_below_nodes : (words : List ℕ) (a : Site) (n word : ℕ) → IsSite p a → IsBelowNodes a → node_part p (set words (address p a) word) n ≡ node_part p words n
  part_below_nodes words a n word h below = search (rules, part_below)

  pub stores_keep_apart : StoresKeepApart p
  stores_keep_apart = record {
    place = λ words a b word h k differ. get_or-set_other words (address p a) (address p b) word 0 (λ e. differ (sym (are_places_apart.apart b a k h e)));
    node = λ words n m offset word h k. part_other_node p words n m offset word h.first k.first;
    below = part_below_nodes;
    own = part_same_node p;
    entry = entry_other p;
    own_entry = entry_own p;
    header = entry_header p;
    rear = entry_rear p;
  }
