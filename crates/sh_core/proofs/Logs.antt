-- The log and the ended calls, some entries or one call longer; and the least point.
use Rattle.std.{proofs.Common.{◌≡◌, ℕ, ◌+◌, ◌≤◌, List, [], ◌∷◌, ◌++◌, Some, None, refl, sym, ap, ◌∙◌, subst, arith, append-nil, append_assoc, ne_eqb, eq-eqb}, specs.Prelude.{◌==◌}}
use Rattle.std.proofs.lemmas.List.Elements.{filter-append}
use Rattle.sh_map.{specs.{declared.{call.{Call.{Call}, Reply.{Reply}}, log.Entry.{Entry}, book.Done.{Done}}, Made.{entries_by}, Book.{made}}, proofs.BookLemmas.{Answers-push, IsLeastPoint-push}}
use Rattle.sh_map.specs.declared.call.Call.TheVariants as call
use Rattle.sh_map.specs.declared.call.Reply.TheVariants as reply
use Rattle.sh_state.specs.Change.{HasNoneOf}
use Rattle.sh_core.specs.Actors.{IsLeast, IsAnswered, AreAnswered, AreInOrder, updates, made_by}

pub made_by-append : (i : ℕ) (es fs : List Entry) → made_by i (es ++ fs) ≡ made_by i es ++ made_by i fs
made_by-append i es fs = filter-append (λ (e : Entry). e.seat == i) es fs

pub made_by_none : (i : ℕ) (es : List Entry) → HasNoneOf i es → made_by i es ≡ []
made_by_none i [] h = refl
made_by_none i (e ∷ es) h = rw (ne_eqb e.seat i h.0) (made_by_none i es h.1)

pub made_by_here : (i : ℕ) (e : Entry) → e.seat ≡ i → made_by i (e ∷ []) ≡ e ∷ []
made_by_here i e h = rw (eq-eqb e.seat i h) refl

pub updates-snoc : (ds : List Done) (d : Done) → updates (ds ++ d ∷ []) ≡ updates ds ++ entries_by d.seat d.call d.reply
updates-snoc [] d = append-nil (entries_by d.seat d.call d.reply)
updates-snoc (c ∷ ds) d = ap (λ (es : List Entry). entries_by c.seat c.call c.reply ++ es) (updates-snoc ds d) ∙ sym (append_assoc (entries_by c.seat c.call c.reply) (updates ds) (entries_by d.seat d.call d.reply))

pub in_order_later : (low : ℕ) (ds : List Done) (m n : ℕ) → AreInOrder low ds m → m ≤ n → AreInOrder low ds n
in_order_later low [] m n h le = omega arith
in_order_later low (d ∷ ds) m n h le = (h.0, h.1, in_order_later (d.point + made d.call d.reply) ds m n h.2 le)

pub in_order_snoc : (low : ℕ) (ds : List Done) (d : Done) (n : ℕ) → AreInOrder low ds d.first → d.first ≤ d.point → d.point + made d.call d.reply ≤ n → AreInOrder low (ds ++ d ∷ []) n
in_order_snoc low [] d n h a b = (h, a, b)
in_order_snoc low (c ∷ ds) d n h a b = (h.0, h.1, in_order_snoc (c.point + made c.call c.reply) ds d n h.2 a b)

-- what stands when one entry comes, stands when some come
pub grows : (P : List Entry → Type 0) → ((es : List Entry) (e : Entry) → P es → P (es ++ e ∷ [])) → (log more : List Entry) → P log → P (log ++ more)
grows P push log [] h = subst P (sym (append-nil log)) h
grows P push log (e ∷ more) h = subst P (append_assoc log (e ∷ []) more) (grows P push (log ++ e ∷ []) more (push log e h))

least_push : (d : Done) (log : List Entry) (e : Entry) (c : Call) (r : Reply) → IsLeast log d c r → IsLeast (log ++ e ∷ []) d c r
least_push d log e (call.Get key) (reply.Some value) h = IsLeastPoint-push log e d.first key (Some value) d.point h
least_push d log e (call.Get key) reply.None h = IsLeastPoint-push log e d.first key None d.point h
least_push d log e (call.Del key) reply.None h = IsLeastPoint-push log e d.first key None d.point h
least_push d log e c r h = tt

answered_push : (i : ℕ) (log : List Entry) (e : Entry) (ds : List Done) → AreAnswered log i ds → AreAnswered (log ++ e ∷ []) i ds
answered_push i log e [] h = tt
answered_push i log e (d ∷ ds) h =
    let a = h.0 in
    (record { seat_is = a.seat_is; answers = Answers-push log e d a.answers; least = least_push d log e d.call d.reply a.least; rows = a.rows }, answered_push i log e ds h.1)

pub answered_longer : (i : ℕ) (ds : List Done) (log more : List Entry) → AreAnswered log i ds → AreAnswered (log ++ more) i ds
answered_longer i ds log more h = grows (λ (es : List Entry). AreAnswered es i ds) (λ es e k. answered_push i es e ds k) log more h

pub answered_snoc : (log : List Entry) (i : ℕ) (ds : List Done) (d : Done) → AreAnswered log i ds → IsAnswered log i d → AreAnswered log i (ds ++ d ∷ [])
answered_snoc log i [] d h k = (k, tt)
answered_snoc log i (c ∷ ds) d h k = (h.0, answered_snoc log i ds d h.1 k)
