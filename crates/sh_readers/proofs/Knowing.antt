-- What a READ of a leaf knows begins with its first load, is kept by each event, and grows by each load.
use Rattle.std.proofs.{Common.{rules, ◌≡◌, ◌≢◌, ◌⊎◌, ℕ, zero, suc, ◌+◌, ◌<◌, ◌≤◌, List, ◌++◌, length, length-append, get_or, set, None, refl, sym, ap, ◌∙◌, subst, inl, inr, arith}, lemmas.Bool.{cases_eq}}
use Rattle.std.proofs.lemmas.{Grind.{same_number_lists}, List.{get_or-set_same, get_or-set_other}}
use Rattle.sh_logic.proofs.Lists.{from_each}
use Rattle.sh_base.specs.{declared.config.ConfigParts.{ConfigParts}, Setting.{node_size}, Layout.{entry_at, entry_rear_at, rear_at}}
use Rattle.sh_base.proofs.LayoutLemmas.{entry_within, entry_apart, entry_size_is, node_size_is}
use Rattle.sh_map.specs.declared.log.Entry.{Entry}
use Rattle.sh_image.{specs.{declared.leaf.LeafEntry.{LeafEntry}, Leaf.{IsEntry, IsLeaf, leaf_in}, Seen.{IsUntorn}}, proofs.ReadLemmas.{words_from_untorn, header_spelled}}
use Rattle.sh_edit.specs.Held.{key_at, no_entry}
use Rattle.sh_read.specs.Moments.{Writing, One, word, IsWriting, IsNodeMoment, Next, still, begin_whole, more_whole, end_whole, begin_one, more_one, end_one}
use Rattle.sh_read.{specs.Reading.{IsEntryWord, NotWhole, NotOne, IsCalm, FitsRead}, proofs.Words.{ended_head, ended_other, word_other, word_front}}
use Rattle.sh_read.proofs.Read.{FitsRead-next, FitsRead-load, FitsRead-begin, accepted}
use Rattle.sh_state.{specs.Nodes.{low_in, high_in, next_in, standing_entries, IsStandingLeaf}, proofs.EntryWords.{same_entry, length-entries_of}}
use Rattle.sh_readers.specs.{Points.{standing_entry, HadSince, IsEntrySince, IsGoodNode, FitsKey, LoadedFrom, IsReadLeaf}, Knows.{Knows}}
use Rattle.sh_readers.proofs.{KeyLemmas.{key_weaker, key_begin, key_same, key_load, key_written, key_end}, PointLemmas.{HadAt-more, good_on, good_now, absent_now, replied}}

-- while no node WRITE has stored, what was may be said in other words
calm_weaker : (p : ConfigParts) (level : ℕ) (Was Now : List ℕ → Type 0) (s : List ℕ) (w : Writing) (from : ℕ) (got : List ℕ) → (IsCalm p s w got → (b : List ℕ) → Was b → Now b) → FitsRead p level Was s w from got → FitsRead p level Now s w from got
calm_weaker p level h2 h3 s w from got h r = search rules

-- an entry that is written has a greater front version
front_cases : (p : ConfigParts) (s : List ℕ) (w : Writing) (i : ℕ) → IsWriting p 0 s w → NotWhole w → NotOne i w ⊎ (get_or s (entry_at p i) 0 < word p s w (entry_at p i))
front_cases p s w i h n = search (rules, cases_eq, word_front)

-- The load of an entry's front version: where it agrees with the rear one, the entry is the one that stands now.
front_stands : (p : ConfigParts) (Was : List ℕ → Type 0) (s : List ℕ) (w : Writing) (i : ℕ) (got : List ℕ) → IsNodeMoment p 0 s w → FitsRead p 0 Was s w (entry_at p i + 1) got → IsCalm p s w got → i < p.leaf → get_or got (entry_rear_at p i) 0 ≡ word p s w (entry_at p i) → (o : ℕ) → IsEntryWord p i o → get_or (set got (entry_at p i) (word p s w (entry_at p i))) o 0 ≡ get_or s o 0
front_stands p h1 s w i got mo r c h agree = search (rules, entry_size_is, front_cases, word_other, cases_eq, get_or-set_same, entry_within, node_size_is, get_or-set_other)

-- An event that a READ passes calmly: the header stays, and the entries stay but for one
record Steady (p : ConfigParts) (s t : List ℕ) (w : Writing) (got : List ℕ) : Type 0 where
  calm : IsCalm p s w got
  header : (o : ℕ) → o < 6 → get_or s o 0 ≡ get_or t o 0
  entries : (s ≡ t) ⊎ ((j : ℕ) × (j < p.leaf) × ((i o : ℕ) → i ≢ j → IsEntryWord p i o → get_or t o 0 ≡ get_or s o 0))

steady : (p : ConfigParts) (s t : List ℕ) (w v : Writing) (got : List ℕ) → Next p s w t v → IsNodeMoment p 0 s w → get_or got (rear_at p) 0 ≤ get_or s 0 0 → IsCalm p t v got → Steady p s t w got
steady p s t w v got still m version c = record { calm = c; header = λ o lt. refl; entries = inl refl }
steady p s t w v got (begin_whole e) m version c = absurd c.none
steady p s t w v got (more_whole e) m version c = absurd c.none
steady p s t w v got (end_whole e) m version c = absurd (omega (arith, version, c.same, m.writing.1))
steady p s t w v got (begin_one e) m version c = record { calm = record { none = tt; same = c.same }; header = λ o lt. refl; entries = inl refl }
steady p s t w v got (more_one e) m version c = record { calm = record { none = tt; same = c.same }; header = λ o lt. refl; entries = inl refl }
steady p s t w v got (end_one {new = new} {i = j} {done = done} e same) m version c =
    let more : done + 1 ≡ 3 + p.value_words = omega (arith, e) in
    let ends : (o : ℕ) → get_or t o 0 ≡ word p s (One j new (3 + p.value_words)) o = λ o. same o ∙ ap (λ n. word p s (One j new n) o) more in
    let head : (o : ℕ) → o < 6 → get_or s o 0 ≡ get_or t o 0 = λ o lt. sym (ended_head p 0 s j new t o m.writing.0 refl ends (inl lt)) in
    record {
      calm = record { none = tt; same = c.same ∙ sym (head 0 (omega arith)) };
      header = head;
      entries = inr (j, m.writing.0, λ i o ne at. ended_other p 0 s i j new t o ends (λ z. ne (sym z)) at);
    }

-- an event of a leaf, and the growth of the log with it
pub knows_event : (p : ConfigParts) (log more : List Entry) (first : ℕ) (s t : List ℕ) (w v : Writing) (from : ℕ) (got : List ℕ) → Next p s w t v → IsNodeMoment p 0 s w → IsNodeMoment p 0 t v → length s ≡ node_size p → length t ≡ node_size p → IsStandingLeaf p log s → IsStandingLeaf p (log ++ more) t
    → Knows p log first s w from got → Knows p (log ++ more) first t v from got
knows_event p log more first s t w v from got n mo mo' long_s long_t part part' k =
    let now : List Entry = log ++ more in
    let since : first ≤ length now = omega (arith, k.since, length-append log more) in
    let calm : IsCalm p t v got → Steady p s t w got = steady p s t w v got n mo k.fits.version in
    record {
      m = k.m;
      since = since;
      fits = calm_weaker p 0 (IsGoodNode p log first s) (IsGoodNode p now first t) t v from got
          (λ c b was. let st = calm c in record { long = was.long; entries = λ i lt. good_on p log first more s t (standing_entry p b i) (st.header 2 (omega arith)) (st.header 3 (omega arith)) (was.entries i lt) })
          (FitsRead-next p 0 (IsGoodNode p log first s) s t w v from got n mo mo' k.fits);
      loaded = k.loaded;
      keys = λ c a key nz lo hi.
          let st = calm c in
          let A : Type 0 = HadSince now first key None in
          let g : ℕ → ℕ = λ i. key_at (standing_entries p got) i in
          let old : FitsKey A k.m (standing_entries p s) g key = key_weaker (HadSince log first key None) A k.m (standing_entries p s) g key (HadAt-more log more first key None)
          (k.keys st.calm a key nz (omega (arith, lo, st.header 2 (omega arith))) (omega (arith, hi, st.header 3 (omega arith)))) in
          elim st.entries [
            | inl e ↦ subst (λ (z : List ℕ). FitsKey A k.m (standing_entries p z) g key) e old
            | inr x ↦ key_written A k.m (standing_entries p s) key (standing_entries p t) g x.0 nz (length-entries_of p t ∙ sym (length-entries_of p s)) (omega (arith, x.1, length-entries_of p s)) part.once
                (λ i lt ne. ap (λ (e : LeafEntry). e.key) (same_entry p t s i no_entry (omega (arith, lt, length-entries_of p s)) long_t long_s (λ o at. x.2 i o ne at)))
                (absent_now p now first t since part' key nz lo hi) old
          ];
    }

module _ (p : ConfigParts) (log : List Entry) (first : ℕ) (s : List ℕ) (w : Writing) (mo : IsNodeMoment p 0 s w) (long_s : length s ≡ node_size p) (part : IsStandingLeaf p log s) where
  -- the load of the rear version
  pub knows_begin : (blank : List ℕ) → length blank ≡ node_size p → first ≤ length log → Knows p log first s w (rear_at p) (set blank (rear_at p) (word p s w (rear_at p)))
  knows_begin blank long since =
      let got : List ℕ = set blank (rear_at p) (word p s w (rear_at p)) in
      record {
        m = p.leaf;
        since = since;
        fits = FitsRead-begin p 0 (IsGoodNode p log first s) s w blank mo long;
        loaded = record { most = omega arith; whole = λ i h le. absurd (omega (arith, h, le)); others = λ i h. omega (arith, entry_within p i h) };
        keys = λ c a key nz lo hi. key_begin (HadSince log first key None) p.leaf (standing_entries p s) key (λ i. key_at (standing_entries p got) i) (sym (length-entries_of p s)) (absent_now p log first s since part key nz lo hi);
      }

  module _ (at : ℕ) (got : List ℕ) (kn : Knows p log first s w (at + 1) got) where
    abbrev now_got : List ℕ
    now_got = set got at (word p s w at)

    -- the words behind are as they were
    behind : (o : ℕ) → at < o → get_or now_got o 0 ≡ get_or got o 0
    behind o h = get_or-set_other got at o (word p s w at) 0 (λ e. omega (arith, e, h))

    calm_got : IsCalm p s w now_got → IsCalm p s w got
    calm_got c = record { none = c.none; same = sym (behind (rear_at p) (omega (arith, kn.fits.begun))) ∙ c.same }

    good : IsGoodNode p log first s s
    good = good_now p log first s kn.since part long_s

    fits_now : FitsRead p 0 (IsGoodNode p log first s) s w at now_got
    fits_now = FitsRead-load p 0 (IsGoodNode p log first s) s w at got mo good kn.fits

    -- an entry that was loaded whole before is as it was
    old_entry : (i : ℕ) → i < p.leaf → at < entry_at p i → standing_entry p now_got i ≡ standing_entry p got i
    old_entry i h lt = same_entry p now_got got i no_entry h fits_now.long kn.fits.long (λ o k. behind o (omega (arith, k.low, lt)))

    old_agree : (i : ℕ) → i < p.leaf → at < entry_at p i → get_or now_got (entry_rear_at p i) 0 ≡ get_or now_got (entry_at p i) 0 → get_or got (entry_rear_at p i) 0 ≡ get_or got (entry_at p i) 0
    old_agree i h lt e = sym (behind (entry_rear_at p i) (omega (arith, lt))) ∙ e ∙ behind (entry_at p i) lt

    -- a load that isn't the last one of an entry
    inner_load : ((i : ℕ) → i < kn.m → at ≢ entry_at p i) → Knows p log first s w at now_got
    inner_load inner = record {
      m = kn.m;
      since = kn.since;
      fits = fits_now;
      loaded = record { most = kn.loaded.most; whole = λ i h le. let k = kn.loaded.whole i h le in omega (arith, k); others = λ i h. let k = kn.loaded.others i h in omega (arith, k, inner i h) };
      keys = λ c a key nz lo hi.
          let before : (i : ℕ) → i < p.leaf → kn.m ≤ i → at < entry_at p i = λ i h le. let z = kn.loaded.whole i h le in omega (arith, z) in
          key_same (HadSince log first key None) kn.m (standing_entries p s) key (λ i. key_at (standing_entries p got) i) (λ i. key_at (standing_entries p now_got) i)
          (λ i le lt. let h : i < p.leaf = omega (arith, lt, length-entries_of p s) in ap (λ (e : LeafEntry). e.key) (old_entry i h (before i h le)))
          (kn.keys (calm_got c) (λ i h le. old_agree i h (before i h le) (a i h le)) key nz lo hi);
    }

    stands_now : (n : ℕ) → n < p.leaf → at ≡ entry_at p n → IsCalm p s w got → get_or now_got (entry_rear_at p n) 0 ≡ get_or now_got (entry_at p n) 0 → (o : ℕ) → IsEntryWord p n o → get_or now_got o 0 ≡ get_or s o 0
    stands_now n lt e c agree =
        let Q : ℕ → Type 0 = λ z. FitsRead p 0 (IsGoodNode p log first s) s w (z + 1) got → (o : ℕ) → IsEntryWord p n o → get_or (set got z (word p s w z)) o 0 ≡ get_or s o 0 in
        let here : get_or now_got at 0 ≡ word p s w at = get_or-set_same got at (word p s w at) 0 (omega (arith, kn.fits.long, kn.fits.begun, node_size_is p)) in
        let same : get_or got (entry_rear_at p n) 0 ≡ word p s w (entry_at p n) = sym (behind (entry_rear_at p n) (omega (arith, e))) ∙ agree ∙ ap (λ (z : ℕ). get_or now_got z 0) (sym e) ∙ here ∙ ap (word p s w) e in
        subst Q (sym e) (λ r. front_stands p (IsGoodNode p log first s) s w n got mo r c lt same) kn.fits

    -- the load of an entry's front version
    front_load : (n : ℕ) → kn.m ≡ n + 1 → at ≡ entry_at p n → Knows p log first s w at now_got
    front_load n is e =
        let lt : n < p.leaf = omega (arith, is, kn.loaded.most) in
        let before : (i : ℕ) → i < p.leaf → n < i → at < entry_at p i = λ i h le. let z = kn.loaded.whole i h (omega (arith, is, le)) in omega (arith, z) in
        record {
          m = n;
          since = kn.since;
          fits = fits_now;
          loaded = record { most = omega (arith, lt); whole = λ i h le. elim (cases_eq i n) [ inl q ↦ omega (arith, e, ap (entry_at p) q) | inr ne ↦ let z = before i h (omega (arith, le, ne)) in omega (arith, z) ]; others = λ i h. let z = entry_apart p i n h in omega (arith, z, e, entry_size_is p) };
          keys = λ c a key nz lo hi.
              let front : standing_entry p now_got n ≡ standing_entry p s n = same_entry p now_got s n no_entry lt fits_now.long long_s (stands_now n lt e (calm_got c) (a n lt (omega arith))) in
              let old : FitsKey (HadSince log first key None) (n + 1) (standing_entries p s) (λ i. key_at (standing_entries p got) i) key =
              subst (λ z. FitsKey (HadSince log first key None) z (standing_entries p s) (λ i. key_at (standing_entries p got) i) key) is (kn.keys (calm_got c) (λ i h le. old_agree i h (before i h (omega (arith, is, le))) (a i h (omega (arith, is, le)))) key nz lo hi) in
              key_load (HadSince log first key None) n (standing_entries p s) key (λ i. key_at (standing_entries p got) i) (λ i. key_at (standing_entries p now_got) i) (omega (arith, lt, length-entries_of p s)) (ap (λ (x : LeafEntry). x.key) front)
              (λ i le less. let h : i < p.leaf = omega (arith, less, length-entries_of p s) in ap (λ (x : LeafEntry). x.key) (old_entry i h (before i h le))) old;
        }

    -- each load
    pub knows_load : Knows p log first s w at now_got
    knows_load = go kn.m refl
      where
        go : (m : ℕ) → kn.m ≡ m → Knows p log first s w at now_got
        go zero e = inner_load (λ i lt. absurd (omega (arith, lt, e)))
        go (suc n) e = elim (cases_eq at (entry_at p n)) [
          | inl here ↦ front_load n (omega (arith, e)) here
          | inr away ↦ inner_load (λ i lt is. let last = kn.loaded.others n (omega (arith, e)) in elim (cases_eq i n) [
            | inl q ↦ away (is ∙ ap (entry_at p) q)
            | inr ne ↦ let z = entry_apart p i n (omega (arith, lt, e, ne)) in omega (arith, z, is, last, entry_size_is p)
          ])
        ]

  -- the READ is whole and accepted, and all versions agree
  pub knows_accepted : (got : List ℕ) → Knows p log first s w 0 got → get_or got 0 0 ≡ word p s w 0 → IsUntorn p got → IsReadLeaf p log first s got
  knows_accepted got kn last untorn =
      let c : IsCalm p s w got = accepted p 0 (IsGoodNode p log first s) s w got mo kn.fits last untorn.node in
      let head : (o : ℕ) → o < 6 → get_or got o 0 ≡ get_or s o 0 = λ o lt. kn.fits.head c o (inl lt) (omega arith) in
      let spelled = header_spelled p s (leaf_in p s) part.spells in
      let level : get_or got 1 0 ≡ 0 = head 1 (omega arith) ∙ spelled.0 in
      let agree : (i : ℕ) → i < p.leaf → get_or got (entry_rear_at p i) 0 ≡ get_or got (entry_at p i) 0 = λ i h. sym (untorn.entries level i h) in
      let none : kn.m ≡ 0 = first_none kn.m kn.loaded in
      let entry : (i : ℕ) → i < p.leaf → IsEntrySince p log first s (standing_entry p got i) = λ i h.
      let seen = kn.fits.whole refl c i h (omega arith) (agree i h) in
      subst (IsEntrySince p log first s) (sym (same_entry p got seen.0 i no_entry h kn.fits.long seen.1.long seen.2)) (seen.1.entries i h) in
      let is : leaf_in p got ≡ record { version = get_or s 0 0; low = low_in s; high = high_in s; next = next_in s; entries = standing_entries p got } =
      λ t. record { version = head 0 (omega arith) t; low = head 2 (omega arith) t; high = head 3 (omega arith) t; next = head 4 (omega arith) t; entries = standing_entries p got } in
      let l : IsLeaf p (leaf_in p s) = part.spells.lawful in
      record {
        spells = record {
          words = sym (words_from_untorn p got kn.fits.long level (head 5 (omega arith) ∙ spelled.1) (sym untorn.node) (untorn.entries level));
          lawful = subst (IsLeaf p) (sym is) record {
            version = l.version;
            fences = l.fences;
            next = l.next;
            end = l.end;
            count = length-entries_of p got;
            entries = from_each (IsEntry p (low_in s) (high_in s)) no_entry (standing_entries p got) (λ i lt. (entry i (omega (arith, lt, length-entries_of p got))).rules);
          };
        };
        low = head 2 (omega arith);
        high = head 3 (omega arith);
        next = head 4 (omega arith);
        holds = λ key nz lo hi.
            let k : FitsKey (HadSince log first key None) 0 (standing_entries p s) (λ i. key_at (standing_entries p got) i) key =
            subst (λ z. FitsKey (HadSince log first key None) z (standing_entries p s) (λ i. key_at (standing_entries p got) i) key) none (kn.keys c (λ i h le. agree i h) key nz (omega (arith, lo, head 2 (omega arith))) (omega (arith, hi, head 3 (omega arith)))) in
            replied p log first s got key nz entry
            (λ unseen. key_end (HadSince log first key None) (standing_entries p s) (λ i. key_at (standing_entries p got) i) key (λ i lt. unseen i (omega (arith, lt, length-entries_of p s, length-entries_of p got))) k);
      }
    where
      first_none : (m : ℕ) → LoadedFrom p 0 m → m ≡ 0
      first_none zero h = refl
      first_none (suc m) h = let z = h.others m (omega arith) in absurd (omega (arith, z))

-- an inner node that was read and accepted stands
pub inner_accepted : (p : ConfigParts) (level : ℕ) (Was : List ℕ → Type 0) (s : List ℕ) (w : Writing) (got : List ℕ) → IsNodeMoment p (suc level) s w → length s ≡ node_size p → FitsRead p (suc level) Was s w 0 got → get_or got 0 0 ≡ word p s w 0 → get_or got 0 0 ≡ get_or got (rear_at p) 0 → got ≡ s
inner_accepted p level h2 s w got mo long r last agree = search (rules, accepted, same_number_lists, node_size_is)
