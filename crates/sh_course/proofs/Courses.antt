-- What the course of a call shows.
use Rattle.std.{proofs.{Common.{rules, ◌≡◌, ℕ, Option, Some, None, List, refl, sym, ap, subst, ◌∙◌, false, [], ◌∷◌, true, ◌++◌}, lemmas.List.{append_assoc}}, specs.List.{AllByRecursion}}
use Rattle.sh_base.specs.{Setting.{IsSetting}, declared.config.ConfigParts.{ConfigParts}}
use Rattle.sh_alloc.specs.declared.state.NodeRange.{NodeRange}
use Rattle.sh_image.specs.{Inner.{Inner, IsInner}, declared.inner.Image.{Image, TheVariants.{Inner as InnerImage}}}
use Rattle.sh_cache.proofs.RowLemmas.{forgotten_all, kept_all}
use Rattle.sh_read.specs.{Reads.{progress_of}, declared.state.Progress.{Progress, TheVariants.{Accepted}}}
use Rattle.sh_decide.specs.{Aims.{call_key}, declared.state.Aim.{Aim}}
use Rattle.sh_client.{proofs.CachedLemmas.{fed_learns, turned_learns, fed_keeps, turned_keeps}, specs.Feeds.{loaded, began_at, begun, calling}}
use Rattle.sh_client.specs.{Cached.{keeping, origin_of}, CachedTurns.{image_by, learnt, learnt_in}, Rests.{reply_in, reply_of, has_ended, is_resting}}
use Rattle.sh_client.specs.{Courses.{KeepsCall}, declared.state.Origin.{Origin}}
use Rattle.sh_client.specs.{InLine.{stand_in, HasTurn}, Machine.{Machine}, Wants.{want_of}, declared.state.Phase.{Phase, TheVariants.{Read, ReadLocked, Ended as EndedPhase}}}
use Rattle.sh_course.proofs.{Decided.{chosen, begun_names, fed_names, AllNamed}, Reading.{read_on, spelled_inner, Comes, run_begins}, Steps.{fed_shows, turned_shows}}
use Rattle.sh_course.{proofs.Locks.{HoldsOwn, turn_holds}, specs.Life.{call_begun, course_in, end_of_call, ends_in, lived, start_in, turns_in, SeatAct, AreActs, Begins, Ended, IsBegun, Rests, Takes}}
use Rattle.sh_course.{proofs.Rising.{turn_rises, CountsTurn, spent_counted}, specs.Turns.{machine_behind, Found, Taken, reached, turn_found, turns_taken, AreFound, IsCallCourse, MayFind}}
use Rattle.sh_course.{proofs.Showing.{Shows, Goes}, specs.{Answers.{Caused}, Causes.{IsReady}, Counts.{CountsReads}, Ends.{AreEnds, EndsAt}, Ranges.{FoundRows}, Skips.{CountsSkips}}}
use Rattle.sh_course.specs.Found.{holds}
use Rattle.sh_map.specs.declared.{book.Row.{Row}, call.{Call.{Call, TheVariants.{Range}}, Reply.{Reply}}}
use Rattle.sh_map.specs.declared.call.Reply.TheVariants as reply

-- ---- the cached nodes of a client stay lawful
module _ (p : ConfigParts) where
  abbrev Lawful : List Inner → Type 0
  Lawful rows = AllByRecursion (IsInner p) rows

  keeps : (room : ℕ) (aim : Aim) (image : Image) (rows : List Inner) → ((a : Inner) → image ≡ InnerImage a → IsInner p a) → Lawful rows → Lawful (keeping room aim image rows)
  keeps room aim image rows new h = search (rules, chosen, kept_all)

module _ (m : Machine) (t : List Taken) (lawful : IsSetting m.setting) (h : AllByRecursion (IsInner m.setting) m.registers.cached) where
  abbrev Stays : Machine → Type 0
  Stays x = AllByRecursion (IsInner m.setting) x.registers.cached

  shown : (word : ℕ) (aim : Aim) (answer : Progress) (now : List Taken) → Comes m.setting now (loaded m word).registers.reads answer → (o : Option Image) → image_by (loaded m word) answer ≡ o → Stays (learnt (loaded m word) aim o)
  shown word aim answer now comes None is = h
  shown word aim Accepted now comes (Some image) is = keeps m.setting m.setting.cached aim image _ (λ a e. let s = spelled_inner m.setting now (loaded m word).registers.reads comes a lawful.ranged.value_words.0 (is ∙ ap Some e) in s.lawful) (search (rules, forgotten_all))
  shown word aim answer now comes (Some image) is = absurd (cc)

  learnt_stays : (s : NodeRange) (word : ℕ) (phase : Phase) → Shows s t m phase → Stays (learnt_in m word phase)
  learnt_stays s word (Read aim top) shows = shown word aim (progress_of m.setting m.registers.reads word) _ (read_on m.setting t m.registers.reads word shows.1) _ refl
  learnt_stays s word (ReadLocked aim depth) shows = search (rules, forgotten_all)
  learnt_stays s word phase shows = h

-- ---- what is shown where a call begins: nothing yet
module _ (m : Machine) (call : Call) where
  at_shows : (o : Option Origin) → Goes m.registers.spare [] (began_at (calling m call) call o)
  at_shows None = search rules
  at_shows (Some origin) = search (rules, run_begins)

  pub begun_shows : Goes m.registers.spare [] (begun m call)
  begun_shows = at_shows (origin_of m.registers.cached (call_key call))

  pub begun_keeps : (let x = begun m call in (x.setting ≡ m.setting) × (x.registers.call ≡ call) × (x.registers.cached ≡ m.registers.cached))
  begun_keeps = search rules

  pub begun_holds : HoldsOwn m.setting [] (begun m call)
  begun_holds lock depth h = absurd (cc)

-- each turn keeps the setting and the call
pub turn_keeps : (m : Machine) (x : Found) → KeepsCall m (machine_behind m x)
turn_keeps m x = search (rules, fed_keeps, turned_keeps)

-- of a client behind turns of its call: what they show, the nodes that it has in hand, and the lock that is held
pub record Known (m : Machine) (call : Call) (turns : List Taken) (n : Machine) : Type 0 where
  pub setting : n.setting ≡ m.setting
  pub call_is : n.registers.call ≡ call
  pub named : AllNamed n
  pub shows : Goes m.registers.spare turns n
  pub holds_own : HoldsOwn m.setting turns n
  pub cached : AllByRecursion (IsInner m.setting) n.registers.cached

module _ (m : Machine) (call : Call) (ready : IsReady m) where
  pub known : (xs : List Found) → AreFound (begun m call) xs → Known m call (turns_taken (begun m call) xs) (reached (begun m call) xs)
  known [] may =
      let keeps = begun_keeps m call in
      record { setting = keeps.0; call_is = keeps.1; named = begun_names m call ready.cached; shows = begun_shows m call; holds_own = begun_holds m call; cached = subst (λ (rows : List Inner). AllByRecursion (IsInner m.setting) rows) (sym keeps.2) ready.cached }
  known (x ∷ xs) may =
      let k = known xs may.1 in
      let n = reached (begun m call) xs in
      let keeps = turn_keeps n x in
      record {
        setting = keeps.0 ∙ k.setting;
        call_is = keeps.2 ∙ k.call_is;
        named = search (rules, fed_names);
        shows = search (rules, fed_shows, turned_shows);
        cached = subst (λ (p : ConfigParts). AllByRecursion (IsInner p) (machine_behind n x).registers.cached) k.setting (search (rules, fed_learns, learnt_stays, turned_learns));
        holds_own = turn_holds m.setting (turns_taken (begun m call) xs) n k.setting k.holds_own x may.0;
      }

  pub course_known : (n : Machine) (turns : List Taken) → IsCallCourse (begun m call) turns n → Known m call turns n
  course_known n turns c = subst (λ (x : Machine). Known m call turns x) (sym c.client_is) (subst (λ (ts : List Taken). Known m call ts (reached (begun m call) c.founds)) (sym c.turns_are) (known c.founds c.may))

-- a reply is given where a call has ended
pub ended_with : (m : Machine) (phase : Phase) (r : Reply) → reply_in m phase ≡ Some r → (phase ≡ EndedPhase) × (m.registers.reply ≡ r)
ended_with m phase r h1 = search rules

module _ (m n : Machine) (call : Call) (turns : List Taken) (ready : IsReady m) (c : IsCallCourse (begun m call) turns n) where
  pub caused : (r : Reply) → reply_of n ≡ Some r → Caused m.setting call m.registers.spare turns n.registers.rows r
  caused r is =
      let k = course_known m call ready n turns c in
      let e = ended_with n n.phase r is in
      let h : Caused n.setting n.registers.call m.registers.spare turns n.registers.rows n.registers.reply = subst (λ (x : Phase). Shows m.registers.spare turns n x) e.0 k.shows in
      subst (λ (q : ConfigParts). Caused q call m.registers.spare turns n.registers.rows r) k.setting
      (subst (λ (c : Call). Caused n.setting c m.registers.spare turns n.registers.rows r) k.call_is
      (subst (λ (x : Reply). Caused n.setting n.registers.call m.registers.spare turns n.registers.rows x) e.1 h))

  -- no lock is held where it has ended
  pub frees_all : (r : Reply) → reply_of n ≡ Some r → (lock : ℕ) → holds m.setting lock turns ≡ None
  frees_all r is lock = by (holds m.setting lock turns) refl
    where
      by : (o : Option ℕ) → holds m.setting lock turns ≡ o → o ≡ None
      by None e = refl
      by (Some depth) e =
          let k = course_known m call ready n turns c in
          absurd (subst (HasTurn lock) (ap (λ (x : Phase). stand_in n.setting n.registers x) (ended_with n n.phase r is).0) (k.holds_own lock depth e))

  course_rises : (x : Found) → CountsTurn n.setting n.registers.call (turn_found (want_of n) x ∷ turns) n (machine_behind n x)
  course_rises x =
      let k = course_known m call ready n turns c in
      turn_rises m.registers.spare n turns (subst IsSetting (sym k.setting) ready.setting) k.named k.shows (subst (λ (p : ConfigParts). HoldsOwn p turns n) (sym k.setting) k.holds_own) x

  pub course_skips : (x : Found) → MayFind (want_of n) x → CountsSkips (turn_found (want_of n) x ∷ turns) n (machine_behind n x)
  course_skips x may =
      let k = course_known m call ready n turns c in
      let r = course_rises x in
      record { spent = spent_counted m.registers.spare turns n x (subst IsSetting (sym k.setting) ready.setting) may k.shows; worn = r.worn }

  pub course_reads : (x : Found) → CountsReads m.setting call (turn_found (want_of n) x ∷ turns) n (machine_behind n x)
  course_reads x =
      let k = course_known m call ready n turns c in
      let r = course_rises x in
      subst (λ (p : ConfigParts). CountsReads p call (turn_found (want_of n) x ∷ turns) n (machine_behind n x)) k.setting (subst (λ (c : Call). CountsReads n.setting c (turn_found (want_of n) x ∷ turns) n (machine_behind n x)) k.call_is r.reads)

-- a range has rows alone
pub rows_alone : (p : ConfigParts) (start : NodeRange) (turns : List Taken) (rows : List Row) (low high : ℕ) (r : Reply) → Caused p (Range low high) start turns rows r → (upto : ℕ) × (r ≡ reply.Rows upto) × FoundRows p low high turns rows upto
rows_alone p start turns rows low high r h1 = search rules

-- ---- the turns since the last begin are the course of its call, and the last ones of all; and each ended call has its cause there
course_more : (m n : Machine) (turns : List Taken) (x : Found) → MayFind (want_of n) x → IsCallCourse m turns n → IsCallCourse m (turn_found (want_of n) x ∷ turns) (machine_behind n x)
course_more m n turns x may c = record {
  founds = x ∷ c.founds;
  may = (subst (λ (k : Machine). MayFind (want_of k) x) c.client_is may, c.may);
  turns_are = ap (λ (k : Machine). turn_found (want_of k) x ∷ turns) c.client_is ∙ ap (λ (l : List Taken). turn_found (want_of (reached m c.founds)) x ∷ l) c.turns_are;
  client_is = ap (λ (k : Machine). machine_behind k x) c.client_is;
}

pub life_course : (m : Machine) (life : List SeatAct) → AreActs m life → IsBegun life → IsCallCourse (begun (start_in m life) (call_begun m life)) (course_in m life) (lived m life)
life_course m [] may is = absurd is
life_course m (Begins call ∷ life) may is = subst (λ (c : Call). IsCallCourse (begun (lived m life) c) [] (begun (lived m life) call)) (sym (begun_keeps (lived m life) call).1) (record { founds = []; may = tt; turns_are = refl; client_is = refl })
life_course m (Takes x ∷ life) may is =
    let k = lived m life in
    subst (λ (c : Call). IsCallCourse (begun (start_in m life) c) (turn_found (want_of k) x ∷ course_in m life) (machine_behind k x)) (sym (turn_keeps k x).2)
    (course_more (begun (start_in m life) k.registers.call) k (course_in m life) x may.0 (life_course m life may.1 is))
life_course m (Rests ∷ life) may is = absurd is

-- they are the last of its turns
pub life_turns : (m : Machine) (life : List SeatAct) → (earlier : List Taken) × (turns_in m life ≡ course_in m life ++ earlier)
life_turns m [] = ([], refl)
life_turns m (Begins call ∷ life) = (turns_in m life, refl)
life_turns m (Takes x ∷ life) = let r = life_turns m life in (r.0, ap (λ (l : List Taken). turn_found (want_of (lived m life)) x ∷ l) r.1)
life_turns m (Rests ∷ life) = life_turns m life

is_begun : (m : Machine) (life : List SeatAct) → is_resting m ≡ true → AreActs m life → is_resting (lived m life) ≡ false → IsBegun life
is_begun m [] rest may now = absurd (cc)
is_begun m (Begins call ∷ life) rest may now = tt
is_begun m (Takes x ∷ life) rest may now = is_begun m life rest may.1 (let k = lived m life in search rules)
is_begun m (Rests ∷ life) rest may now = absurd (cc)

module _ (m : Machine) (ready : IsReady m) (rest : is_resting m ≡ true) where
  -- a lawful client stays one
  abbrev Fits : Machine → Type 0
  Fits k = (k.setting ≡ m.setting) × AllByRecursion (IsInner m.setting) k.registers.cached

  fits_ready : (k : Machine) → Fits k → IsReady k
  fits_ready k h = record { setting = subst IsSetting (sym h.0) ready.setting; cached = subst (λ (p : ConfigParts). AllByRecursion (IsInner p) k.registers.cached) (sym h.0) h.1 }

  stays : (life : List SeatAct) → AreActs m life → Fits (lived m life) × (IsBegun life → Fits (start_in m life))
  stays [] may = ((refl, ready.cached), λ is. absurd is)
  stays (Begins call ∷ life) may =
      let r = (stays life may).0 in
      let keeps = begun_keeps (lived m life) call in
      ((keeps.0 ∙ r.0, subst (λ (rows : List Inner). AllByRecursion (IsInner m.setting) rows) (sym keeps.2) r.1), λ is. r)
  stays (Takes x ∷ life) may =
      let k = lived m life in
      let begun = is_begun m life rest may.1 (search rules) in
      let s = (stays life may.1).1 begun in
      let kn = course_known (start_in m life) (call_begun m (Takes x ∷ life)) (fits_ready (start_in m life) s) (machine_behind k x) (course_in m (Takes x ∷ life)) (life_course m (Takes x ∷ life) may begun) in
      ((kn.setting ∙ s.0, subst (λ (p : ConfigParts). AllByRecursion (IsInner p) (machine_behind k x).registers.cached) s.0 kn.cached), λ is. s)
  stays (Rests ∷ life) may = ((stays life may).0, λ is. absurd is)

  module _ (life : List SeatAct) (may : AreActs m life) (begun : IsBegun life) (r : Reply) (is : reply_of (lived m life) ≡ Some r) where
    abbrev Shown : ConfigParts → Type 0
    Shown p = Caused p (call_begun m life) (start_in m life).registers.spare (course_in m life) (lived m life).registers.rows r × ((lock : ℕ) → holds p lock (course_in m life) ≡ None)

    life_shows : Shown m.setting
    life_shows = search (rules, stays, may, life_course, fits_ready, caused, frees_all)

  -- ---- each call that ended
  one_more : (life : List SeatAct) (es : List Ended) (e : Ended) → AreEnds m life es → EndsAt m life e → AreEnds m life (es ++ e ∷ [])
  one_more life [] e h k = (k, tt)
  one_more life (x ∷ es) e h k = (h.0, one_more life es e h.1 k)

  ended_phase : (phase : Phase) → has_ended phase ≡ true → phase ≡ EndedPhase
  ended_phase phase e = search rules

  ends_in_whole : (whole later life : List SeatAct) → whole ≡ later ++ life → AreActs m life → AreEnds m whole (ends_in m life)
  ends_in_whole whole later [] is may = tt
  ends_in_whole whole later (Begins call ∷ life) is may = ends_in_whole whole (later ++ Begins call ∷ []) life (is ∙ sym (append_assoc later (Begins call ∷ []) life)) may
  ends_in_whole whole later (Rests ∷ life) is may = ends_in_whole whole (later ++ Rests ∷ []) life (is ∙ sym (append_assoc later (Rests ∷ []) life)) may
  ends_in_whole whole later (Takes x ∷ life) is may =
      let k = lived m life in
      let n = machine_behind k x in
      let before = ends_in_whole whole (later ++ Takes x ∷ []) life (is ∙ sym (append_assoc later (Takes x ∷ []) life)) may.1 in
      let begun = is_begun m life rest may.1 (search rules) in
      chosen (AreEnds m whole) (has_ended n.phase) (ends_in m life ++ end_of_call n ∷ []) (ends_in m life)
      (λ e.
      let replied : reply_of n ≡ Some n.registers.reply = ap (reply_in n) (ended_phase n.phase e) in
      let shown = life_shows (Takes x ∷ life) may begun n.registers.reply replied in
      one_more whole (ends_in m life) (end_of_call n) before (record { later = later; earlier = Takes x ∷ life; whole = is; course = life_course m (Takes x ∷ life) may begun; replied = replied; rows = refl; caused = shown.0; frees = shown.1 }))
      (λ e. before)

  pub ends_are : (life : List SeatAct) → AreActs m life → AreEnds m life (ends_in m life)
  ends_are life may = ends_in_whole life [] life refl may
