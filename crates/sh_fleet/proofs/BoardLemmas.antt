-- The board's places, its chains, and how both are found from a sheet.
use Rattle.std.proofs.Common.{◌≡◌, ◌≢◌, ◌⊎◌, ◌<◌, ◌+◌, ◌-◌, ℕ, zero, suc, List, [], ◌∷◌, ◌++◌, length, take, slice_index_or, slice_set, Option, Some, None, IfSome, refl, sym, ap, subst, ◌∙◌, arith, add-one, append_assoc, append-nil, inl, inr, eq-eqb, ne_eqb}
use Rattle.std.{specs.{Prelude.{slice_get, get_or, replicate}, Ordering.{nat_cmp}, BTreeMap.{BTreeMap, Updates}}, proofs.{Math.Seq.{take-length}, lemmas.{Bool.{cases_eq}, List.{length-map, length-take-le, length-append}, Option.{slice_get_read}}}}
use Rattle.std.specs.BTreeMap as tree
use Rattle.sh_logic.proofs.Options.{some_is, some_none}
use Rattle.sh_map.proofs.MapLemmas.{apart_test}
use Rattle.sh_sheet.specs.{declared.item.Item.{Item, TheVariants.{Ask, Mark, After, Turn}}, Marks.{at_place}}
use Rattle.sh_pool_rule.specs.declared.view.Card.{Card}
use Rattle.sh_pool.specs.{Cards.{HasNoted, IsNoteOf, NoteState}, Passes.{PoolTable, Standing}}
use Rattle.sh_fleet.{specs.{Wants.{counted, no_tally, stand, tally_from, wants_from, wants_of, wants_one, Tally, Want}, Boards.{led, link_of, want_at, want_by, AreLinks, AreLying, AreNext, IsAfter, IsBoard, IsCardFor, IsChain, IsLink, IsLinked, IsMaker, IsMark, IsMarkAt, IsNoteFor, MayLie, Names, Stays}}, proofs.{HeardLemmas.{place_within}, SeatLemmas.{split_at}, ShareLemmas.{next_front}}}

-- ---- notes that lie

pub lying_long : (laid : Option PoolTable) (ws : List Want) (os : List (Option NoteState)) → AreLying laid ws os → length os ≡ length ws
lying_long laid [] [] h = refl
lying_long laid [] (o ∷ os) h = absurd h
lying_long laid (w ∷ ws) [] h = absurd h
lying_long laid (w ∷ ws) (o ∷ os) h = ap suc (lying_long laid ws os h.1)

pub lying_set : (laid : Option PoolTable) (ws : List Want) (os : List (Option NoteState)) (k : ℕ) (w : Want) (o : Option NoteState) → AreLying laid ws os → slice_get ws k ≡ Some w → MayLie laid w o → AreLying laid ws (slice_set os k o)
lying_set laid [] [] k w o h here new = absurd (some_none (sym here))
lying_set laid [] (x ∷ os) k w o h here new = absurd h
lying_set laid (v ∷ ws) [] k w o h here new = absurd h
lying_set laid (v ∷ ws) (x ∷ os) zero w o h here new = (subst (λ (u : Want). MayLie laid u o) (sym (some_is here)) new, h.1)
lying_set laid (v ∷ ws) (x ∷ os) (suc k) w o h here new = (h.0, lying_set laid ws os k w o h.1 here new)

pub lying_at : (laid : Option PoolTable) (ws : List Want) (os : List (Option NoteState)) (k : ℕ) (w : Want) (d : Option NoteState) → AreLying laid ws os → slice_get ws k ≡ Some w → MayLie laid w (slice_index_or os k d)
lying_at laid [] [] k w d h here = absurd (some_none (sym here))
lying_at laid [] (x ∷ os) k w d h here = absurd h
lying_at laid (v ∷ ws) [] k w d h here = absurd h
lying_at laid (v ∷ ws) (x ∷ os) zero w d h here = subst (λ (u : Want). MayLie laid u x) (some_is here) h.0
lying_at laid (v ∷ ws) (x ∷ os) (suc k) w d h here = lying_at laid ws os k w d h.1 here

pub none_lying : (laid : Option PoolTable) (ws : List Want) → AreLying laid ws (replicate (length ws) None)
none_lying laid [] = tt
none_lying laid (w ∷ ws) = (tt, none_lying laid ws)

-- ---- chains

pub named_place : (ws : List Want) (link : ℕ) (w : Want) → link ≢ 0 → Names ws link w → slice_get ws (link - 1) ≡ Some w
named_place ws zero w ne h = absurd (ne refl)
named_place ws (suc k) w ne h = let e : suc k - 1 ≡ k = omega arith in rw e h

pub next_long : (ws more : List Want) (ns : List ℕ) → AreNext ws more ns → length ns ≡ length more
next_long ws [] [] h = refl
next_long ws [] (n ∷ ns) h = absurd h
next_long ws (w ∷ more) [] h = absurd h
next_long ws (w ∷ more) (n ∷ ns) h = ap suc (next_long ws more ns h.1)

pub next_at : (ws more : List Want) (ns : List ℕ) (k : ℕ) (w : Want) (d : ℕ) → AreNext ws more ns → slice_get more k ≡ Some w → Names ws (slice_index_or ns k d) w
next_at ws [] [] k w d h here = absurd (some_none (sym here))
next_at ws [] (n ∷ ns) k w d h here = absurd h
next_at ws (v ∷ more) [] k w d h here = absurd h
next_at ws (v ∷ more) (n ∷ ns) zero w d h here = subst (Names ws n) (some_is here) h.0
next_at ws (v ∷ more) (n ∷ ns) (suc k) w d h here = next_at ws more ns k w d h.1 here

next_more : (ws more : List Want) (ns : List ℕ) (n : ℕ) (w : Want) → AreNext ws more ns → Names ws n w → AreNext ws (more ++ w ∷ []) (ns ++ n ∷ [])
next_more ws [] [] n w h here = (here, tt)
next_more ws [] (m ∷ ns) n w h here = absurd h
next_more ws (v ∷ more) [] n w h here = absurd h
next_more ws (v ∷ more) (m ∷ ns) n w h here = (h.0, next_more ws more ns n w h.1 here)

-- ---- passes that make notes

pub stays_noted : (p q r : Standing) (n : NoteState) → Stays p q → HasNoted q r n → Stays p r
stays_noted p q r n h noted = record { client = noted.kept.client ∙ h.client; seat_is = noted.kept.seat_is ∙ h.seat_is; actor = noted.kept.actor ∙ h.actor; seen = noted.seen ∙ h.seen; cards = noted.cards ∙ h.cards }

pub stays_itself : (p : Standing) → Stays p p
stays_itself p = record { client = refl; seat_is = refl; actor = refl; seen = refl; cards = refl }

pub noted_for : (laid : Option PoolTable) (w : Want) (q r : Standing) (n : NoteState) → IsMaker w q → HasNoted q r n → IsNoteOf laid n → IsNoteFor laid w n
noted_for laid w q r n maker noted of = record {
  of = of;
  card = subst (IsCardFor w) (sym noted.card) (record { seat = maker.seat; calls = maker.calls; learnt = length-map q.view.cards (λ (c : Card). c.seen) ∙ maker.learnt });
}

-- the next link of a chain, and the pass behind its note
pub chain_next : (ws : List Want) (next : List ℕ) (link d : ℕ) (q r : Standing) (n : NoteState) → (h : IsChain ws link q) → link ≢ 0 → AreNext ws ws next → HasNoted q r n → IsChain ws (slice_index_or next (link - 1) d) r
chain_next ws next link d q r n h ne all noted = record {
  want = h.want;
  names = next_at ws ws next (link - 1) h.want d all (named_place ws link h.want ne h.names);
  maker = record { seat = noted.kept.seat_is ∙ h.maker.seat; calls = ap (λ a. length a.dones) noted.kept.actor ∙ h.maker.calls; learnt = ap length noted.cards ∙ h.maker.learnt };
}

-- ---- the sheet's items, one by one

pub tally_more : (t : Tally) (front : List Item) (x : Item) → tally_from t (front ++ x ∷ []) ≡ counted (tally_from t front) x
tally_more t [] x = refl
tally_more t (y ∷ front) x = tally_more (counted t y) front x

wants_more : (t : Tally) (front : List Item) (x : Item) → wants_from t (front ++ x ∷ []) ≡ wants_from t front ++ wants_one (tally_from t front) x
wants_more t [] x = append-nil (wants_one t x)
wants_more t (y ∷ front) x = ap (λ l. wants_one t y ++ l) (wants_more (counted t y) front x) ∙ sym (append_assoc (wants_one t y) (wants_from (counted t y) front) (wants_one (tally_from (counted t y) front) x))

-- an after's want stands behind those of the afters before it
pub want_here : (t : Tally) (items : List Item) (at seat n : ℕ) → slice_get items at ≡ Some (After seat n) → slice_get (wants_from t items) (length (wants_from t (take at items))) ≡ Some ((tally_from t (take at items)).marks n)
want_here t [] at seat n h = absurd (some_none (sym h))
want_here t (x ∷ items) zero seat n h = subst (λ (y : Item). slice_get (wants_one t y ++ wants_from (counted t y) items) 0 ≡ Some (t.marks n)) (sym (some_is h)) refl
want_here t (Ask k call ∷ items) (suc at) seat n h = want_here (counted t (Ask k call)) items at seat n h
want_here t (Mark k m ∷ items) (suc at) seat n h = want_here (counted t (Mark k m)) items at seat n h
want_here t (After k m ∷ items) (suc at) seat n h = want_here (counted t (After k m)) items at seat n h
want_here t (Turn k count ∷ items) (suc at) seat n h = want_here (counted t (Turn k count)) items at seat n h

pub links_long : (ws : List Want) (t : Tally) (items : List Item) (links : List ℕ) → AreLinks ws t items links → length links ≡ length items
links_long ws t [] [] h = refl
links_long ws t [] (l ∷ links) h = absurd h
links_long ws t (x ∷ items) [] h = absurd h
links_long ws t (x ∷ items) (l ∷ links) h = ap suc (links_long ws (counted t x) items links h.1)

pub link_at : (ws : List Want) (t : Tally) (items : List Item) (links : List ℕ) (i : ℕ) (x : Item) (d : ℕ) → AreLinks ws t items links → slice_get items i ≡ Some x → IsLink ws (tally_from t (take i items)) x (slice_index_or links i d)
link_at ws t [] [] i x d h here = absurd (some_none (sym here))
link_at ws t [] (l ∷ links) i x d h here = absurd h
link_at ws t (y ∷ items) [] i x d h here = absurd h
link_at ws t (y ∷ items) (l ∷ links) zero x d h here = subst (λ (z : Item). IsLink ws t z l) (some_is here) h.0
link_at ws t (y ∷ items) (l ∷ links) (suc i) x d h here = link_at ws (counted t y) items links i x d h.1 here

links_set : (ws : List Want) (t : Tally) (items : List Item) (links : List ℕ) (i : ℕ) (x : Item) (link : ℕ) → AreLinks ws t items links → slice_get items i ≡ Some x → IsLink ws (tally_from t (take i items)) x link → AreLinks ws t items (slice_set links i link)
links_set ws t [] [] i x link h here new = absurd (some_none (sym here))
links_set ws t [] (l ∷ links) i x link h here new = absurd h
links_set ws t (y ∷ items) [] i x link h here new = absurd h
links_set ws t (y ∷ items) (l ∷ links) zero x link h here new = (subst (λ (z : Item). IsLink ws t z link) (sym (some_is here)) new, h.1)
links_set ws t (y ∷ items) (l ∷ links) (suc i) x link h here new = (h.0, links_set ws (counted t y) items links i x link h.1 here new)

links_more : (ws : List Want) (t : Tally) (items : List Item) (links : List ℕ) (x : Item) (link : ℕ) → AreLinks ws t items links → IsLink ws (tally_from t items) x link → AreLinks ws t (items ++ x ∷ []) (links ++ link ∷ [])
links_more ws t [] [] x link h new = (new, tt)
links_more ws t [] (l ∷ links) x link h new = absurd h
links_more ws t (y ∷ items) [] x link h new = absurd h
links_more ws t (y ∷ items) (l ∷ links) x link h new = (h.0, links_more ws (counted t y) items links x link h.1 new)

-- an item more behind others changes nothing before it
front_kept : (front : List Item) (x : Item) (k : ℕ) (it : Item) → slice_get front k ≡ Some it → (slice_get (front ++ x ∷ []) k ≡ Some it) × (take k (front ++ x ∷ []) ≡ take k front)
front_kept [] x k it h = absurd (some_none (sym h))
front_kept (y ∷ front) x zero it h = (h, refl)
front_kept (y ∷ front) x (suc k) it h = let r = front_kept front x k it h in (r.0, ap (λ l. y ∷ l) r.1)

front_last : (front : List Item) (x : Item) → (slice_get (front ++ x ∷ []) (length front) ≡ Some x) × (take (length front) (front ++ x ∷ []) ≡ front)
front_last [] x = (refl, refl)
front_last (y ∷ front) x = let r = front_last front x in (r.0, ap (λ l. y ∷ l) r.1)

mark_kept : (front : List Item) (x : Item) (k : ℕ) (w : Want) → IsMarkAt front k w → IsMarkAt (front ++ x ∷ []) k w
mark_kept front x k w h = let r = front_kept front x k (Mark h.seat h.number) h.here in record { seat = h.seat; number = h.number; here = r.0; want = ap (λ l. stand (tally_from no_tally l) h.seat) r.1 ∙ h.want }

marked_within : (front : List Item) (k : ℕ) (w : Want) → IsMarkAt front k w → k < length front
marked_within front k w h = place_within front k (Mark h.seat h.number) h.here

module _ (ws : List Want) (front : List Item) (links next : List ℕ) (marks : BTreeMap ℕ ℕ) (h : IsLinked ws front links next marks) where
  -- behind an item that is no after, with these links and marks
  linked_plain : (x : Item) (link : ℕ) (marks' : BTreeMap ℕ ℕ) → wants_one (tally_from no_tally front) x ≡ [] → IsLink ws (tally_from no_tally front) x link → ((n k : ℕ) → tree.get nat_cmp marks' n ≡ Some k → IsMarkAt (front ++ x ∷ []) k ((counted (tally_from no_tally front) x).marks n)) → IsLinked ws (front ++ x ∷ []) (links ++ link ∷ []) next marks'
  linked_plain x link marks' none new are =
      let same : wants_of (front ++ x ∷ []) ≡ wants_of front = wants_more no_tally front x ∙ (ap (λ l. wants_of front ++ l) none ∙ append-nil (wants_of front)) in
      record {
        links_are = links_more ws no_tally front links x link h.links_are new;
        next_are = subst (λ (l : List Want). AreNext ws (take (length l) ws) next) (sym same) h.next_are;
        long = h.long ∙ ap length (sym same);
        marks_are = λ n k e. subst (λ (t : Tally). IsMarkAt (front ++ x ∷ []) k (t.marks n)) (sym (tally_more no_tally front x)) (are n k e);
      }

  kept : (x : Item) (n k : ℕ) → tree.get nat_cmp marks n ≡ Some k → IsMarkAt (front ++ x ∷ []) k ((tally_from no_tally front).marks n)
  kept x n k e = mark_kept front x k _ (h.marks_are n k e)

  pub linked_other : (x : Item) → ((seat n : ℕ) → x ≢ Mark seat n) → ((seat n : ℕ) → x ≢ After seat n) → IsLinked ws (front ++ x ∷ []) (links ++ 0 ∷ []) next marks
  linked_other (Ask seat call) no_mark no_after = linked_plain (Ask seat call) 0 marks refl tt (kept (Ask seat call))
  linked_other (Turn seat count) no_mark no_after = linked_plain (Turn seat count) 0 marks refl tt (kept (Turn seat count))
  linked_other (Mark seat n) no_mark no_after = absurd (no_mark seat n refl)
  linked_other (After seat n) no_mark no_after = absurd (no_after seat n refl)

  pub linked_mark : (seat n at : ℕ) (marks' : BTreeMap ℕ ℕ) → at ≡ length front → Updates nat_cmp marks marks' n (Some at) → IsLinked ws (front ++ Mark seat n ∷ []) (links ++ 0 ∷ []) next marks'
  linked_mark seat n at marks' here updates = linked_plain (Mark seat n) 0 marks' refl tt marked where
    t : Tally
    t = tally_from no_tally front

    own : IsMarkAt (front ++ Mark seat n ∷ []) (length front) (stand t seat)
    own = let r = front_last front (Mark seat n) in record { seat = seat; number = n; here = r.0; want = ap (λ l. stand (tally_from no_tally l) seat) r.1 }

    marked : (m k : ℕ) → tree.get nat_cmp marks' m ≡ Some k → IsMarkAt (front ++ Mark seat n ∷ []) k (at_place t.marks n (stand t seat) m)
    marked m k e = elim (cases_eq m n) [
      | inl same ↦
          let there : k ≡ length front = sym (some_is (sym updates.1 ∙ (ap (tree.get nat_cmp marks') (sym same) ∙ e))) ∙ here in
          rw (same, eq-eqb n n refl, there) own
      | inr ne ↦ rw (ne_eqb m n ne) (kept (Mark seat n) m k (sym (updates.2 m (apart_test n m (λ b. ne (sym b)))) ∙ e))
    ]

  -- ---- an after, whose mark was found or wasn't
  module _ (seat n j : ℕ) (long : j ≡ length next) (here : slice_get ws j ≡ Some ((tally_from no_tally front).marks n)) where
    old_link : (o : Option ℕ) → tree.get nat_cmp marks n ≡ o → Names ws (link_of links o) ((tally_from no_tally front).marks n)
    old_link None e = tt
    old_link (Some k) e =
        let m = h.marks_are n k e in
        subst (Names ws (get_or links k 0)) m.want (link_at ws no_tally front links k (Mark m.seat m.number) 0 h.links_are m.here)

    new_links : (o : Option ℕ) → tree.get nat_cmp marks n ≡ o → AreLinks ws no_tally front (led links o (j + 1))
    new_links None e = h.links_are
    new_links (Some k) e =
        let m = h.marks_are n k e in
        links_set ws no_tally front links k (Mark m.seat m.number) (j + 1) h.links_are m.here (subst (λ (i : ℕ). Names ws i (stand (tally_from no_tally (take k front)) m.seat)) (sym (add-one j)) (here ∙ ap (λ (w : Want). Some w) (sym m.want)))

    pub linked_after : (o : Option ℕ) → tree.get nat_cmp marks n ≡ o → IsLinked ws (front ++ After seat n ∷ []) (led links o (j + 1) ++ j ∷ []) (next ++ link_of links o ∷ []) marks
    linked_after o e =
        let w = (tally_from no_tally front).marks n in
        let more : wants_of (front ++ After seat n ∷ []) ≡ wants_of front ++ w ∷ [] = wants_more no_tally front (After seat n) in
        let count : j ≡ length (wants_of front) = long ∙ h.long in
        let longer : length (wants_of (front ++ After seat n ∷ [])) ≡ suc j = omega (arith, count, ap length more, length-append (wants_of front) (w ∷ [])) in
        let cut : take j ws ++ w ∷ [] ≡ take (length (wants_of (front ++ After seat n ∷ []))) ws = sym ((split_at ws j w here).1) ∙ ap (λ (i : ℕ). take i ws) (sym longer) in
        record {
          links_are = links_more ws no_tally front (led links o (j + 1)) (After seat n) j (new_links o e) here;
          next_are = subst (λ (l : List Want). AreNext ws l (next ++ link_of links o ∷ [])) cut (next_more ws (take j ws) next (link_of links o) w (subst (λ (i : ℕ). AreNext ws (take i ws) next) (sym count) h.next_are) (old_link o e));
          long = omega (arith, longer, long, length-append next (link_of links o ∷ []));
          marks_are = λ m k f. subst (λ (t : Tally). IsMarkAt (front ++ After seat n ∷ []) k (t.marks m)) (sym (tally_more no_tally front (After seat n))) (kept (After seat n) m k f);
        }

pub linked_within : (ws : List Want) (front : List Item) (links next : List ℕ) (marks : BTreeMap ℕ ℕ) (n : ℕ) (o : Option ℕ) → IsLinked ws front links next marks → o ≡ tree.get nat_cmp marks n → IfSome o (λ k. k < length links)
linked_within ws front links next marks n None h e = tt
linked_within ws front links next marks n (Some k) h e = omega (arith, links_long ws no_tally front links h.links_are, marked_within front k _ (h.marks_are n k (sym e)))

pub none_linked : (ws : List Want) (marks : BTreeMap ℕ ℕ) → ((n : ℕ) → tree.get nat_cmp marks n ≡ None) → IsLinked ws [] [] [] marks
none_linked ws marks none = record { links_are = tt; next_are = tt; long = refl; marks_are = λ n k e. absurd (some_none (sym e ∙ none n)) }

-- ---- the item at a place of the sheet

module _ (items : List Item) (at : ℕ) (it : Item) (lt : at < length items) (is : it ≡ slice_index_or items at it) (links next : List ℕ) (marks : BTreeMap ℕ ℕ) (h : IsLinked (wants_of items) (take at items) links next marks) where
  front_is : length (take at items) ≡ at
  front_is = length-take-le at items (omega (arith, lt))

  pub added_other : ((seat n : ℕ) → it ≢ Mark seat n) → ((seat n : ℕ) → it ≢ After seat n) → IsLinked (wants_of items) (take (at + 1) items) (links ++ 0 ∷ []) next marks
  added_other no_mark no_after = rw (next_front items at it lt is) (linked_other (wants_of items) (take at items) links next marks h it no_mark no_after)

  pub added_mark : (seat n : ℕ) (marks' : BTreeMap ℕ ℕ) → it ≡ Mark seat n → Updates nat_cmp marks marks' n (Some at) → IsLinked (wants_of items) (take (at + 1) items) (links ++ 0 ∷ []) next marks'
  added_mark seat n marks' here updates = rw (next_front items at it lt is, here) (linked_mark (wants_of items) (take at items) links next marks h seat n at marks' (sym front_is) updates)

  pub added_after : (seat n j : ℕ) (o : Option ℕ) → it ≡ After seat n → j ≡ length next → o ≡ tree.get nat_cmp marks n → IsLinked (wants_of items) (take (at + 1) items) (led links o (j + 1) ++ j ∷ []) (next ++ link_of links o ∷ []) marks
  added_after seat n j o here long found =
      let place : slice_get items at ≡ Some (After seat n) = slice_get_read items (length items) at it refl lt is ∙ ap (λ (x : Item). Some x) here in
      let wanted : slice_get (wants_of items) j ≡ Some ((tally_from no_tally (take at items)).marks n) = ap (slice_get (wants_of items)) (long ∙ h.long) ∙ want_here no_tally items at seat n place in
      rw (next_front items at it lt is, here) (linked_after (wants_of items) (take at items) links next marks h seat n j long wanted o (sym found))

pub board_new : (laid : Option PoolTable) (all items : List Item) (links next : List ℕ) (notes : List (Option NoteState)) (count : ℕ) (marks : BTreeMap ℕ ℕ) → items ≡ all → IsLinked (wants_of items) items links next marks → count ≡ length next → notes ≡ replicate count None → IsBoard laid all links next notes
board_new laid all items links next notes count marks same h long none =
    let ws = wants_of items in
    subst (λ (xs : List Item). IsBoard laid xs links next notes) same (record {
      links_are = h.links_are;
      next_are = subst (λ (l : List Want). AreNext ws l next) (take-length ws) h.next_are;
      lying = subst (AreLying laid ws) (sym (none ∙ ap (λ (n : ℕ). replicate n None) (long ∙ h.long))) (none_lying laid ws);
    })

-- ---- a mark's chain, and an after's place

module _ (laid : Option PoolTable) (items : List Item) (links next : List ℕ) (notes : List (Option NoteState)) (h : IsBoard laid items links next notes) (at : ℕ) where
  pub item_within : (o : Option Item) → slice_get items at ≡ o → IsMark o ⊎ IsAfter o → at < length links
  item_within None e m = elim m [ inl a ↦ absurd a | inr b ↦ absurd b ]
  item_within (Some x) e m = omega (arith, links_long (wants_of items) no_tally items links h.links_are, place_within items at x e)

  mark_names : (d : ℕ) (o : Option Item) → slice_get items at ≡ o → IsMark o → Names (wants_of items) (slice_index_or links at d) (want_by (tally_from no_tally (take at items)) o)
  mark_names d None e m = absurd m
  mark_names d (Some (Mark seat n)) e m = link_at (wants_of items) no_tally items links at (Mark seat n) d h.links_are e
  mark_names d (Some (Ask seat call)) e m = absurd m
  mark_names d (Some (After seat n)) e m = absurd m
  mark_names d (Some (Turn seat count)) e m = absurd m

  pub mark_chain : (d : ℕ) (p : Standing) → IsMark (slice_get items at) → IsMaker (want_at items at) p → IsChain (wants_of items) (slice_index_or links at d) p
  mark_chain d p m maker = record { want = want_at items at; names = mark_names d (slice_get items at) refl m; maker = maker }

  after_names : (d : ℕ) (o : Option Item) → slice_get items at ≡ o → IsAfter o → slice_get (wants_of items) (slice_index_or links at d) ≡ Some (want_by (tally_from no_tally (take at items)) o)
  after_names d None e m = absurd m
  after_names d (Some (After seat n)) e m = link_at (wants_of items) no_tally items links at (After seat n) d h.links_are e
  after_names d (Some (Ask seat call)) e m = absurd m
  after_names d (Some (Mark seat n)) e m = absurd m
  after_names d (Some (Turn seat count)) e m = absurd m

  -- the place of an after's note, as it was read
  pub after_place : (place : ℕ) → place ≡ slice_index_or links at place → IsAfter (slice_get items at) → slice_get (wants_of items) place ≡ Some (want_at items at)
  after_place place is m = ap (slice_get (wants_of items)) is ∙ after_names place (slice_get items at) refl m

pub note_taken : (laid : Option PoolTable) (w : Want) (o : Option NoteState) → MayLie laid w o → IfSome o (λ n. IsNoteFor laid w n)
note_taken laid w None h = tt
note_taken laid w (Some n) h = h
