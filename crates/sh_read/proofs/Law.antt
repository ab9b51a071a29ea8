-- The law of reads.
use Rattle.std.proofs.{Common.{rules, ◌≡◌, ℕ, zero, suc, ◌+◌, ◌-◌, ◌<◌, ◌≤◌, List, length, get_or, refl, sym, ap, ◌∙◌, subst, inl, inr, arith}, lemmas.Bool.{cases_eq}}
use Rattle.sh_base.{specs.{declared.config.ConfigParts.{ConfigParts}, Layout.{entry_at, rear_at, entry_rear_at}}, proofs.LayoutLemmas.{entry_size_is}}
use Rattle.sh_read.specs.Moments.{Writing, Idle, Whole, One, word, IsNodeMoment, Next, still, begin_whole, more_whole, end_whole, begin_one, more_one, end_one}
use Rattle.sh_read.specs.{Reading.{IsHead, IsEntryWord, NotWhole}, ReadLaw.{Moment, nowhere, word_at, IsCourse, IsQuiet}}
use Rattle.sh_read.proofs.{Words.{word_head, word_other, word_rear, word_front, word_first, rear_below, ended_head, ended_other}, Quiet.{Touch, stays, begins, goes_on, quiet}}

-- what an event does to a part of a node that has a front and a rear version
data Change (p : ConfigParts) (Part : ℕ → Type 0) (front rear : ℕ) (s : List ℕ) (w : Writing) (t : List ℕ) (v : Writing) : Type 0 where
  same : ((o : ℕ) → Part o → word p t v o ≡ word p s w o) → Change p Part front rear s w t v
  rises : word p s w front < word p t v front → Change p Part front rear s w t v
  under : word p s w rear < word p s w front → word p t v front ≡ word p s w front → Change p Part front rear s w t v

module _ (p : ConfigParts) (level : ℕ) where
  zero_is_head : IsHead p level 0
  zero_is_head = inl (omega arith)

  ends : (s t new : List ℕ) (i done : ℕ) → done ≡ 2 + p.value_words → ((o : ℕ) → get_or t o 0 ≡ word p s (One i new (done + 1)) o) → (o : ℕ) → get_or t o 0 ≡ word p s (One i new (3 + p.value_words)) o
  ends s t new i done e is o = let more : done + 1 ≡ 3 + p.value_words = omega (arith, e) in is o ∙ ap (λ n. word p s (One i new n) o) more

  -- an entry that is written has its greater version in front alone
  is_under : (s new : List ℕ) (i done : ℕ) → IsNodeMoment p level s (One i new done) → word p s (One i new done) (entry_rear_at p i) < word p s (One i new done) (entry_at p i)
  is_under s new i done m = omega (arith, word_rear p level s (One i new done) i m.writing tt, m.versioned.entries m.writing.5 i m.writing.0, m.writing.1, word_front p level s i new done m.writing.3)

  -- of the words that only node WRITEs store
  change_head : (s t : List ℕ) (w v : Writing) → Next p s w t v → IsNodeMoment p level s w → IsNodeMoment p level t v → Change p (IsHead p level) 0 (rear_at p) s w t v
  change_head s t w v still m m' = same (λ o h. refl)
  change_head s t w v (begin_whole {new = new} {done = done} e) m m' = rises (omega (arith, m'.writing.1, word_first p level s new done m'.writing.2))
  change_head s t w v (more_whole {new = new} {done = done} {more = more} e) m m' = under (omega (arith, rear_below p level s (Whole new done) m, m.writing.1, word_first p level s new done m.writing.2)) (word_first p level s new more m'.writing.2 ∙ sym (word_first p level s new done m.writing.2))
  change_head s t w v (end_whole {done = done} e) m m' = under (omega (arith, rear_below p level s (Whole t done) m, m.writing.1, word_first p level s t done m.writing.2)) (sym (word_first p level s t done m.writing.2))
  change_head s t w v (begin_one {new = new} {i = i} {done = done} e) m m' = same (λ o h. word_head p level s (One i new done) o m'.writing tt h)
  change_head s t w v (more_one {new = new} {i = i} {done = done} {more = more} e) m m' = same (λ o h. word_head p level s (One i new more) o m'.writing tt h ∙ sym (word_head p level s (One i new done) o m.writing tt h))
  change_head s t w v (end_one {new = new} {i = i} {done = done} e is) m m' = same (λ o h. ended_head p level s i new t o m.writing.0 m.writing.5 (ends s t new i done e is) h ∙ sym (word_head p level s (One i new done) o m.writing tt h))

  -- and of an entry, where no node WRITE stores
  change_entry : (k : ℕ) → k < p.leaf → (s t : List ℕ) (w v : Writing) → NotWhole w → NotWhole v → Next p s w t v → IsNodeMoment p level s w → IsNodeMoment p level t v → Change p (IsEntryWord p k) (entry_at p k) (entry_rear_at p k) s w t v
  change_entry k h s t w v n n' still m m' = same (λ o h. refl)
  change_entry k h s t w v n n' (begin_whole e) m m' = absurd n'
  change_entry k h s t w v n n' (more_whole e) m m' = absurd n
  change_entry k h s t w v n n' (end_whole e) m m' = absurd n
  change_entry k h s t w v n n' (begin_one {new = new} {i = i} {done = done} e) m m' = elim (cases_eq i k) [
    | inl here ↦ subst (λ k. Change p (IsEntryWord p k) (entry_at p k) (entry_rear_at p k) s Idle s (One i new done)) here (rises (omega (arith, m'.writing.1, word_front p level s i new done m'.writing.3)))
    | inr differ ↦ same (λ o at. word_other p level s (One i new done) k o m'.writing tt differ at)
  ]
  change_entry k h s t w v n n' (more_one {new = new} {i = i} {done = done} {more = more} e) m m' = elim (cases_eq i k) [
    | inl here ↦ subst (λ k. Change p (IsEntryWord p k) (entry_at p k) (entry_rear_at p k) s (One i new done) s (One i new more)) here (under (is_under s new i done m) (word_front p level s i new more m'.writing.3 ∙ sym (word_front p level s i new done m.writing.3)))
    | inr differ ↦ same (λ o at. word_other p level s (One i new more) k o m'.writing tt differ at ∙ sym (word_other p level s (One i new done) k o m.writing tt differ at))
  ]
  change_entry k h s t w v n n' (end_one {new = new} {i = i} {done = done} e is) m m' = elim (cases_eq i k) [
    | inl here ↦ subst (λ k. Change p (IsEntryWord p k) (entry_at p k) (entry_rear_at p k) s (One i new done) t Idle) here (under (is_under s new i done m) (ends s t new i done e is (entry_at p i) ∙ word_front p level s i new (3 + p.value_words) (omega arith) ∙ sym (word_front p level s i new done m.writing.3)))
    | inr differ ↦ same (λ o at. ended_other p level s k i new t o (ends s t new i done e is) differ at ∙ sym (word_other p level s (One i new done) k o m.writing tt differ at))
  ]

  -- the rear version is never past the front version
  rear_le_front : (s : List ℕ) (w : Writing) → IsNodeMoment p level s w → word p s w (rear_at p) ≤ word p s w 0
  rear_le_front s w m = search (rules, rear_below, word_first, word_head, zero_is_head)

  -- where they agree, no node WRITE is under way
  not_whole : (s : List ℕ) (w : Writing) → IsNodeMoment p level s w → word p s w (rear_at p) ≡ word p s w 0 → NotWhole w
  not_whole s w m e = search (rules, rear_below, word_first)

  front_in : (i : ℕ) → IsEntryWord p i (entry_at p i)
  front_in i = record { low = omega arith; high = omega (arith, entry_size_is p) }

  rear_in : (i : ℕ) → IsEntryWord p i (entry_rear_at p i)
  rear_in i = record { low = omega arith; high = omega (arith, entry_size_is p) }

  entry_rear_le_front : level ≡ 0 → (k : ℕ) → k < p.leaf → (s : List ℕ) (w : Writing) → NotWhole w → IsNodeMoment p level s w → word p s w (entry_rear_at p k) ≤ word p s w (entry_at p k)
  entry_rear_le_front l k h s Idle n m = omega (arith, m.versioned.entries l k h)
  entry_rear_le_front l k h s (Whole new done) n m = absurd n
  entry_rear_le_front l k h s (One i new done) n m = elim (cases_eq i k) [
    | inl here ↦ subst (λ k. word p s (One i new done) (entry_rear_at p k) ≤ word p s (One i new done) (entry_at p k)) here (omega (arith, is_under s new i done m))
    | inr differ ↦ omega (arith, word_rear p level s (One i new done) k m.writing tt, word_other p level s (One i new done) k (entry_at p k) m.writing tt differ (front_in k), m.versioned.entries l k h)
  ]

  -- a change is a step of the part's versions
  touch : (moments : List Moment) (Part : ℕ → Type 0) (front rear t : ℕ) → Part front → Part rear → Change p Part front rear (get_or moments t nowhere).standing (get_or moments t nowhere).writing (get_or moments (t + 1) nowhere).standing (get_or moments (t + 1) nowhere).writing → Touch (λ t. (o : ℕ) → Part o → word_at p moments (t + 1) o ≡ word_at p moments t o) (λ t. word_at p moments t front) (λ t. word_at p moments t rear) t
  touch moments h1 front rear t f r h7 = search (rules, stays, begins, goes_on)

  -- what no step changes is the same throughout
  unchanged : (moments : List Moment) (o s n : ℕ) → ((t : ℕ) → s ≤ t → t < s + n → word_at p moments (t + 1) o ≡ word_at p moments t o) → word_at p moments (s + n) o ≡ word_at p moments s o
  unchanged moments o s zero h = let none : s + 0 ≡ s = omega arith in ap (λ t. word_at p moments t o) none
  unchanged moments o s (suc n) h = let next : s + suc n ≡ s + n + 1 = omega arith in ap (λ t. word_at p moments t o) next ∙ h (s + n) (omega arith) (omega arith) ∙ unchanged moments o s n (λ t low high. h t low (omega arith))

  module _ (moments : List Moment) (c : IsCourse p level moments) where
    -- a part that is quiet step by step
    part_quiet : (Part : ℕ → Type 0) (front rear s t : ℕ) → Part front → Part rear → s ≤ t → ((u : ℕ) → s ≤ u → u < t → Change p Part front rear (get_or moments u nowhere).standing (get_or moments u nowhere).writing (get_or moments (u + 1) nowhere).standing (get_or moments (u + 1) nowhere).writing) → word_at p moments s rear ≤ word_at p moments s front → word_at p moments s rear ≡ word_at p moments t front → (o : ℕ) → Part o → IsQuiet p moments s t o
    part_quiet Part front rear s t f r le changes below agree o part u low high =
        let end : s + (t - s) ≡ t = omega arith in
        let here : s + (u - s) ≡ u = omega arith in
        let still = quiet (λ t. (o : ℕ) → Part o → word_at p moments (t + 1) o ≡ word_at p moments t o) (λ t. word_at p moments t front) (λ t. word_at p moments t rear) (t - s) s
        (λ v low high. touch moments Part front rear v f r (changes v low (omega arith))) below (agree ∙ ap (λ t. word_at p moments t front) (sym end)) in
        ap (λ t. word_at p moments t o) (sym here) ∙ unchanged moments o s (u - s) (λ v from below. still v from (omega arith) o part)

    pub node_law : (s t : ℕ) → s ≤ t → t < length moments → word_at p moments s (rear_at p) ≡ word_at p moments t 0 → (o : ℕ) → IsHead p level o → IsQuiet p moments s t o
    node_law s t le in_range agree = part_quiet (IsHead p level) 0 (rear_at p) s t zero_is_head (inr (inl refl)) le
        (λ u low high. change_head _ _ _ _ (c.steps u (omega arith)) (c.each u (omega arith)) (c.each (u + 1) (omega arith)))
        (rear_le_front _ _ (c.each s (omega arith))) agree

    -- in an accepted READ no node WRITE is under way
    calm : (s t : ℕ) → s ≤ t → t < length moments → word_at p moments s (rear_at p) ≡ word_at p moments t 0 → (u : ℕ) → s ≤ u → u ≤ t → NotWhole (get_or moments u nowhere).writing
    calm s t le in_range agree u low high =
        let front = node_law s t le in_range agree 0 zero_is_head in
        let rear = node_law s t le in_range agree (rear_at p) (inr (inl refl)) u low high in
        not_whole _ _ (c.each u (omega arith)) (rear ∙ agree ∙ front t le (omega arith) ∙ sym (front u low high))

    pub entry_law : level ≡ 0 → (s a b t i : ℕ) → s ≤ a → a ≤ b → b ≤ t → t < length moments → i < p.leaf → word_at p moments s (rear_at p) ≡ word_at p moments t 0 → word_at p moments a (entry_rear_at p i) ≡ word_at p moments b (entry_at p i) → (o : ℕ) → IsEntryWord p i o → IsQuiet p moments a b o
    entry_law l s a b t i sa ab bt in_range h agree entry_agree = part_quiet (IsEntryWord p i) (entry_at p i) (entry_rear_at p i) a b (front_in i) (rear_in i) ab
        (λ u low high. change_entry i h _ _ _ _ (calm s t (omega arith) in_range agree u (omega arith) (omega arith)) (calm s t (omega arith) in_range agree (u + 1) (omega arith) (omega arith)) (c.steps u (omega arith)) (c.each u (omega arith)) (c.each (u + 1) (omega arith)))
        (entry_rear_le_front l i h _ _ (calm s t (omega arith) in_range agree a sa (omega arith)) (c.each a (omega arith))) entry_agree
