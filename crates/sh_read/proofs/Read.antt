-- Each event keeps what a READ under way knows, and each load adds to it.
use Rattle.std.proofs.{Common.{rules, ◌≡◌, ◌≢◌, ◌⊎◌, ℕ, suc, ◌+◌, ◌<◌, ◌≤◌, List, ◌∷◌, length, get_or, set, refl, sym, ap, ◌∙◌, inl, inr, arith}, lemmas.Bool.{cases_lt, cases_eq}}
use Rattle.std.proofs.lemmas.List.{get_or-set_same, get_or-set_other, length-set}
use Rattle.sh_base.specs.{declared.config.ConfigParts.{ConfigParts}, Setting.{node_size}, Layout.{entry_at, rear_at, entry_rear_at}}
use Rattle.sh_base.proofs.LayoutLemmas.{entry_within, entry_size_is, node_size_is, rear_at_low}
use Rattle.sh_read.specs.Moments.{Writing, Idle, One, word, IsWriting, IsNodeMoment, Next, still, begin_whole, more_whole, end_whole, begin_one, more_one, end_one}
use Rattle.sh_read.specs.Reading.{IsHead, IsEntryWord, NotWhole, NotOne, IsCalm, FitsReadEntry, FitsRead, StoodIn, StoodWith}
use Rattle.sh_read.proofs.Words.{entry_end, word_head, word_other, word_rear, word_front, word_first, rear_below, ended_head, ended_other}

abbrev get_or_in : List ℕ → ℕ → ℕ
get_or_in l o = get_or l o 0

module _ (p : ConfigParts) (level : ℕ) where
  -- which of two states is calm
  calm_before : (s t : List ℕ) (w v : Writing) (got : List ℕ) → NotWhole w → get_or s 0 0 ≡ get_or t 0 0 → IsCalm p t v got → IsCalm p s w got
  calm_before s t w v got n e c = record { none = n; same = c.same ∙ sym e }

  -- the entry that was written has a greater version than the one that was loaded
  ended_here : (s t : List ℕ) (j i from : ℕ) (got new : List ℕ) (done : ℕ) → ((o : ℕ) → get_or t o 0 ≡ word p s (One j new (3 + p.value_words)) o) → j ≡ i → IsWriting p level s (One j new done) → FitsReadEntry p s (One j new done) from got i → FitsReadEntry p t Idle from got i
  ended_here s t j i from got new done ends here h f = search (rules, word_front)

  -- the others stand as before
  ended_there : (s t : List ℕ) (j i from : ℕ) (got new : List ℕ) (done : ℕ) → ((o : ℕ) → get_or t o 0 ≡ word p s (One j new (3 + p.value_words)) o) → j ≢ i → FitsReadEntry p s (One j new done) from got i → FitsReadEntry p t Idle from got i
  ended_there s t j i from got new done ends differ f =
      let stays = λ (o : ℕ) (at : IsEntryWord p i o). ended_other p level s i j new t o ends differ at in
      let front = stays (entry_at p i) (record { low = omega arith; high = omega (arith, entry_size_is p) }) in
      record {
        version = omega (arith, f.version, front);
        words = λ n e o at above. f.words differ (e ∙ front) o at above ∙ sym (stays o at);
      }

  -- ---- the events
  pub FitsRead-next : (Was : List ℕ → Type 0) (s t : List ℕ) (w v : Writing) (from : ℕ) (got : List ℕ) → Next p s w t v → IsNodeMoment p level s w → IsNodeMoment p level t v → FitsRead p level Was s w from got → FitsRead p level Was t v from got
  FitsRead-next Was s t w v from got still m m' r = r
  FitsRead-next Was s t w v from got (begin_whole e) m m' r = record {
    long = r.long;
    begun = r.begun;
    version = r.version;
    head = λ c. absurd c.none;
    part = λ l c. absurd c.none;
    whole = λ l c. absurd c.none;
  }
  FitsRead-next Was s t w v from got (more_whole e) m m' r = record {
    long = r.long;
    begun = r.begun;
    version = r.version;
    head = λ c. absurd c.none;
    part = λ l c. absurd c.none;
    whole = λ l c. absurd c.none;
  }
  FitsRead-next Was s t w v from got (end_whole e) m m' r =
      let past : get_or got (rear_at p) 0 < get_or t 0 0 = omega (arith, r.version, m.writing.1) in
      record {
        long = r.long;
        begun = r.begun;
        version = omega arith;
        head = λ c. absurd (omega (arith, c.same));
        part = λ l c. absurd (omega (arith, c.same));
        whole = λ l c. absurd (omega (arith, c.same));
      }
  FitsRead-next Was s t w v from got (begin_one e) m m' r =
      let calm = λ (c : IsCalm p t v got). calm_before s t w v got tt refl c in
      record {
        long = r.long;
        begun = r.begun;
        version = r.version;
        head = λ c. r.head (calm c);
        part = λ l c i h low high. let f = r.part l (calm c) i h low high in record { version = f.version; words = λ n. f.words tt };
        whole = λ l c. r.whole l (calm c);
      }
  FitsRead-next Was s t w v from got (more_one e) m m' r =
      let calm = λ (c : IsCalm p t v got). calm_before s t w v got tt refl c in
      record {
        long = r.long;
        begun = r.begun;
        version = r.version;
        head = λ c. r.head (calm c);
        part = λ l c i h low high. let f = r.part l (calm c) i h low high in record { version = f.version; words = f.words };
        whole = λ l c. r.whole l (calm c);
      }
  FitsRead-next Was s t w v from got (end_one {new = new} {i = j} {done = done} e same) m m' r =
      let more : done + 1 ≡ 3 + p.value_words = omega (arith, e) in
      let ends : (o : ℕ) → get_or t o 0 ≡ word p s (One j new (3 + p.value_words)) o = λ o. same o ∙ ap (λ n. word p s (One j new n) o) more in
      let first = ended_head p level s j new t 0 m.writing.0 m.writing.5 ends (inl (omega arith)) in
      let calm = λ (c : IsCalm p t v got). calm_before s t w v got tt (sym first) c in
      record {
        long = r.long;
        begun = r.begun;
        version = omega (arith, r.version, first);
        head = λ c o at above. r.head (calm c) o at above ∙ sym (ended_head p level s j new t o m.writing.0 m.writing.5 ends at);
        part = λ l c i h low high. elim (cases_eq j i) [
          | inl here ↦ ended_here s t j i from got new done ends here m.writing (r.part l (calm c) i h low high)
          | inr differ ↦ ended_there s t j i from got new done ends differ (r.part l (calm c) i h low high)
        ];
        whole = λ l c. r.whole l (calm c);
      }

  -- an entry that is written has a greater front version
  front_cases : (s : List ℕ) (w : Writing) (i : ℕ) → IsWriting p level s w → NotWhole w → NotOne i w ⊎ (get_or s (entry_at p i) 0 < word p s w (entry_at p i))
  front_cases s w i h n = search (rules, cases_eq, word_front)

  -- ---- a load
  module _ (Was : List ℕ → Type 0) (s : List ℕ) (w : Writing) (at : ℕ) (got : List ℕ) (m : IsNodeMoment p level s w) (was : Was s) (r : FitsRead p level Was s w (at + 1) got) where
    pub x : ℕ
    x = word p s w at

    pub new_got : List ℕ
    new_got = set got at x

    here : get_or new_got at 0 ≡ x
    unfolding new_got
    here = get_or-set_same got at x 0 (omega (arith, r.long, r.begun, node_size_is p))

    there : (o : ℕ) → at < o → get_or new_got o 0 ≡ get_or got o 0
    unfolding new_got
    there o h = get_or-set_other got at o x 0 (λ e. omega arith)

    calm_again : get_or new_got (rear_at p) 0 ≡ get_or got (rear_at p) 0 → IsCalm p s w new_got → IsCalm p s w got
    calm_again e c = record { none = c.none; same = sym e ∙ c.same }

    load_head : NotWhole w → IsCalm p s w got → (o : ℕ) → IsHead p level o → at ≤ o → get_or new_got o 0 ≡ get_or s o 0
    unfolding x
    load_head n c o h above = elim (cases_eq o at) [
      | inl e ↦ ap (λ k. get_or new_got k 0) e ∙ here ∙ ap (word p s w) (sym e) ∙ word_head p level s w o m.writing n h
      | inr ne ↦ there o (omega arith) ∙ r.head c o h (omega arith)
    ]

    rear_is : level ≡ 0 → (i : ℕ) → i < p.leaf → get_or s (entry_rear_at p i) 0 ≡ get_or s (entry_at p i) 0
    rear_is = m.versioned.entries

    -- the words of an entry that is loaded in part, one word more
    load_words : (i : ℕ) → NotWhole w → NotOne i w → ((o : ℕ) → IsEntryWord p i o → at + 1 ≤ o → get_or got o 0 ≡ get_or s o 0) → (o : ℕ) → IsEntryWord p i o → at ≤ o → get_or new_got o 0 ≡ get_or s o 0
    unfolding x
    load_words i n k before o h above = elim (cases_eq o at) [
      | inl e ↦ ap (λ k. get_or new_got k 0) e ∙ here ∙ ap (word p s w) (sym e) ∙ word_other p level s w i o m.writing n k h
      | inr ne ↦ there o (omega arith) ∙ before o h (omega arith)
    ]

    load_part : level ≡ 0 → IsCalm p s w got → (i : ℕ) → i < p.leaf → entry_at p i < at → at ≤ entry_rear_at p i → FitsReadEntry p s w at new_got i
    unfolding x
    load_part l c i h low high = elim (cases_lt at (entry_rear_at p i)) [
      | inl before ↦
          let f = r.part l c i h (omega arith) (omega arith) in
          let rear = there (entry_rear_at p i) before in
          record { version = omega (arith, f.version, rear); words = λ n e. load_words i c.none n (f.words n (sym rear ∙ e)) }
      | inr begins ↦
          let same : at ≡ entry_rear_at p i = omega arith in
          let rear : get_or new_got (entry_rear_at p i) 0 ≡ get_or s (entry_rear_at p i) 0 = ap (λ k. get_or new_got k 0) (sym same) ∙ here ∙ ap (word p s w) same ∙ word_rear p level s w i m.writing c.none in
          record {
            version = omega (arith, rear, rear_is l i h);
            words = λ n e. load_words i c.none n (λ o at above. absurd (omega (arith, at.high, entry_end p level s i)));
          }
    ]

    -- The load of an entry's front version: where it agrees with the rear one, the entry is the one that stands now.
    pub load_front : level ≡ 0 → IsCalm p s w got → (i : ℕ) → i < p.leaf → at ≡ entry_at p i → get_or new_got (entry_rear_at p i) 0 ≡ get_or new_got (entry_at p i) 0 → (o : ℕ) → IsEntryWord p i o → get_or new_got o 0 ≡ get_or s o 0
    unfolding x
    load_front l c i h same agree =
        let past : at < entry_rear_at p i = omega arith in
        let f = r.part l c i h (omega arith) (omega arith) in
        let front : get_or new_got (entry_at p i) 0 ≡ word p s w (entry_at p i) = ap (λ k. get_or new_got k 0) (sym same) ∙ here ∙ ap (word p s w) same in
        let rear = there (entry_rear_at p i) past in
        elim (front_cases s w i m.writing c.none) [
          | inl n ↦
              let standing = word_other p level s w i (entry_at p i) m.writing c.none n (record { low = omega arith; high = omega (arith, entry_size_is p) }) in
              λ o k. load_words i c.none n (f.words n (sym rear ∙ agree ∙ front ∙ standing)) o k (omega (arith, k.low))
          | inr greater ↦ absurd (omega (arith, f.version, greater, rear, agree, front))
        ]

    load_whole : level ≡ 0 → IsCalm p s w got → (i : ℕ) → i < p.leaf → at ≤ entry_at p i → get_or new_got (entry_rear_at p i) 0 ≡ get_or new_got (entry_at p i) 0 → (b : List ℕ) × Was b × ((o : ℕ) → IsEntryWord p i o → get_or new_got o 0 ≡ get_or b o 0)
    load_whole l c i h low agree = elim (cases_lt at (entry_at p i)) [
      | inl before ↦
          let past : at < entry_rear_at p i = omega arith in
          let seen = r.whole l c i h (omega arith) (sym (there (entry_rear_at p i) past) ∙ agree ∙ there (entry_at p i) before) in
          (seen.0, seen.1, λ o k. there o (omega (arith, k.low)) ∙ seen.2 o k)
      | inr ends ↦ let same : at ≡ entry_at p i = omega arith in (s, was, load_front l c i h same agree)
    ]

    -- a load adds the word that it found
    pub FitsRead-load : FitsRead p level Was s w at (set got at (word p s w at))
    unfolding new_got x
    FitsRead-load =
        let rear = there (rear_at p) (omega (arith, r.begun)) in
        let calm = λ (c : IsCalm p s w new_got). calm_again rear c in
        record {
          long = length-set got at (word p s w at) ∙ r.long;
          begun = omega (arith, r.begun);
          version = omega (arith, r.version, rear);
          head = λ c. load_head c.none (calm c);
          part = λ l c. load_part l (calm c);
          whole = λ l c. load_whole l (calm c);
        }

  -- the first load, of the rear version
  pub FitsRead-begin : (Was : List ℕ → Type 0) (s : List ℕ) (w : Writing) (blank : List ℕ) → IsNodeMoment p level s w → length blank ≡ node_size p → FitsRead p level Was s w (rear_at p) (set blank (rear_at p) (word p s w (rear_at p)))
  FitsRead-begin h0 s w blank m long = search (rules, get_or-set_same, node_size_is, length-set, rear_below, rear_at_low, word_head, entry_within)

  -- A READ whose node versions agree when the front version is loaded: no node WRITE is under way, and what it loaded
  -- of the words that only node WRITEs store is what stands.
  pub accepted : (Was : List ℕ → Type 0) (s : List ℕ) (w : Writing) (got : List ℕ) → IsNodeMoment p level s w → FitsRead p level Was s w 0 got → get_or got 0 0 ≡ word p s w 0 → get_or got 0 0 ≡ get_or got (rear_at p) 0 → IsCalm p s w got
  accepted h0 s w got m r last agree = search (rules, word_first, word_head)

  -- what stood once stood once
  pub FitsRead-weaker : (Was Now : List ℕ → Type 0) (s : List ℕ) (w : Writing) (from : ℕ) (got : List ℕ) → ((b : List ℕ) → Was b → Now b) → FitsRead p level Was s w from got → FitsRead p level Now s w from got
  FitsRead-weaker h0 h1 s w from got h r = search rules

  -- while no node WRITE has stored
  pub FitsRead-calm : (Was Now : List ℕ → Type 0) (s : List ℕ) (w : Writing) (from : ℕ) (got : List ℕ) → (IsCalm p s w got → (b : List ℕ) → Was b → Now b) → FitsRead p level Was s w from got → FitsRead p level Now s w from got
  FitsRead-calm h0 h1 s w from got h r = search rules

  -- the header stays while no node WRITE has stored
  pub header_stays : (s t : List ℕ) (w v : Writing) (got : List ℕ) → Next p s w t v → IsNodeMoment p level s w → get_or got (rear_at p) 0 ≤ get_or s 0 0 → IsCalm p t v got → (o : ℕ) → o < 6 → get_or s o 0 ≡ get_or t o 0
  header_stays s t w v got still m version c o low = refl
  header_stays s t w v got (begin_whole e) m version c o low = absurd c.none
  header_stays s t w v got (more_whole e) m version c o low = absurd c.none
  header_stays s t w v got (end_whole e) m version c o low = absurd (omega (arith, version, c.same, m.writing.1))
  header_stays s t w v got (begin_one e) m version c o low = refl
  header_stays s t w v got (more_one e) m version c o low = refl
  header_stays s t w v got (end_one {new = new} {i = j} {done = done} e same) m version c o low =
      let more : done + 1 ≡ 3 + p.value_words = omega (arith, e) in
      sym (ended_head p level s j new t o m.writing.0 m.writing.5 (λ o. same o ∙ ap (λ n. word p s (One j new n) o) more) (inl low))

  -- ---- with the header that stands now
  module _ (stood : List (List ℕ)) where
    pub stood-next : (s t : List ℕ) (w v : Writing) (from : ℕ) (got : List ℕ) → Next p s w t v → IsNodeMoment p level s w → IsNodeMoment p level t v → FitsRead p level (StoodWith stood s) s w from got → FitsRead p level (StoodWith stood t) t v from got
    stood-next s t w v from got next m m' r =
        FitsRead-calm (StoodWith stood s) (StoodWith stood t) t v from got (λ c b was. (was.0, λ o low. was.1 o low ∙ header_stays s t w v got next m r.version c o low)) (FitsRead-next (StoodWith stood s) s t w v from got next m m' r)

    pub stood-load : (s : List ℕ) (w : Writing) (at : ℕ) (got : List ℕ) → IsNodeMoment p level s w → StoodIn stood s → FitsRead p level (StoodWith stood s) s w (at + 1) got → FitsRead p level (StoodWith stood s) s w at (set got at (word p s w at))
    stood-load s w at got m was = FitsRead-load (StoodWith stood s) s w at got m (was, λ o low. refl)

    pub stood-more : (b s : List ℕ) (w : Writing) (from : ℕ) (got : List ℕ) → FitsRead p level (StoodWith stood s) s w from got → FitsRead p level (StoodWith (b ∷ stood) s) s w from got
    stood-more b s w from got = FitsRead-weaker (StoodWith stood s) (StoodWith (b ∷ stood) s) s w from got (λ x was. (among was.0, was.1))
      where
        among : {x : List ℕ} → StoodIn stood x → StoodIn (b ∷ stood) x
        among h = (suc h.0, h.1, omega (arith, h.2), h.3, h.4)
