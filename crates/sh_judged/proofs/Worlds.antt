-- What a world whose calls have all ended says of them.
use Rattle.std.proofs.Common.{rules, ℕ, zero, suc, ◌*◌, pow_mono, ◌≡◌, ◌≤◌, ◌<◌, ◌+◌, ◌^◌, Bool, true, false, List, [], ◌∷◌, ◌++◌, length, map, Option, Some, refl, sym, subst, arith}
use Rattle.std.{specs.{Prelude.{◌==◌, if◌then◌else◌, filter, is_some, slice_get}, List.{AllByRecursion, list_all}}, proofs.lemmas.{Bool.{and_parts}, List.Elements.{recursion_from_All}}}
use Rattle.sh_logic.proofs.{Lists.{all_weaker}, Tests.{same_test}}
use Rattle.sh_base.specs.{declared.config.ConfigParts.{ConfigParts}, Setting.{all_seats, last_version, IsSetting}}
use Rattle.sh_map.specs.{declared.{call.{Call.{Call}, Reply.{Reply}}, log.Entry.{Entry}, book.{Done.{Done}}}, Book.{Answers, AnswersAt}, Calls.{IsInRange}}
use Rattle.sh_sheet.specs.declared.item.Item.{Item, TheVariants.{Ask}}
use Rattle.sh_core.specs.{Actors.{Actor, AreAnswered, HasOwnRows}, Causes.{HasCause, HaveCauses}}
use Rattle.sh_core_says.specs.Books.{counter_in}
use Rattle.sh_world.{specs.{Running.{IsGiven, IsRunning}, States.{Given, HasActor, Place, State, actor_of, done_in, dones_by, dones_from, dones_of}}, proofs.LawLemmas.{lawful}}
use Rattle.sh_judged.proofs.{Books.{IsTellable}, Bounds.{HasSmallVersion}, Lines.{FitsCall}, Sheets.{AsksWords, HasWords}, Texts.{AreNumbered}}

-- ---- the numbers of the calls

numbered_head : (n : ℕ) (g : Given) (o : Option Reply) (dones : List Done) → is_some o ≡ true → AreNumbered (n + 1) dones → AreNumbered n (done_in n g o ++ dones)
numbered_head n g o dones e h = search rules

pub numbered : (n : ℕ) (calls : List Given) → list_all (λ (g : Given). is_some g.reply) calls ≡ true → AreNumbered n (dones_from n calls)
numbered n [] e = tt
numbered n (g ∷ calls) e =
    let both = and_parts (is_some g.reply) (list_all (λ (g : Given). is_some g.reply) calls) e in
    numbered_head n g g.reply (dones_from (n + 1) calls) both.0 (numbered (n + 1) calls both.1)

-- ---- what they ask for

filtered : (p : Item → Bool) (items : List Item) → AllByRecursion AsksWords items → AllByRecursion AsksWords (filter p items)
filtered p [] h = tt
filtered p (x ∷ items) h = by (p x) (filtered p items h.1) where
  by : (t : Bool) → AllByRecursion AsksWords (filter p items) → AllByRecursion AsksWords (if t then x ∷ filter p items else filter p items)
  by true rest = (h.0, rest)
  by false rest = rest

-- a call in range, with words for values
pub record IsAsked (p : ConfigParts) (g : Given) : Type 0 where
  pub given : IsGiven p g
  pub words : HasWords g.call

asked_from : (p : ConfigParts) (calls : List Given) → ((place : ℕ) (g : Given) → slice_get calls place ≡ Some g → IsGiven p g) → AllByRecursion AsksWords (map (λ (g : Given). Ask g.seat g.call) calls) → AllByRecursion (IsAsked p) calls
asked_from p [] each h = tt
asked_from p (g ∷ calls) each h = (record { given = each 0 g refl; words = h.0 }, asked_from p calls (λ place f here. each (suc place) f here) h.1)

pub all_asked : (p : ConfigParts) (calls : List Given) (is : Item → Bool) (items : List Item) → ((place : ℕ) (g : Given) → slice_get calls place ≡ Some g → IsGiven p g) → map (λ (g : Given). Ask g.seat g.call) calls ≡ filter is items → AllByRecursion AsksWords items → AllByRecursion (IsAsked p) calls
all_asked p calls is items each same h = asked_from p calls each (subst (AllByRecursion AsksWords) (sym same) (filtered is items h))

fits : (p : ConfigParts) (call : Call) → IsInRange p call → HasWords call → FitsCall p.value_words call
fits p call h w = search rules

-- an ended call is one that was asked for
record IsAskedDone (p : ConfigParts) (d : Done) : Type 0 where
  seat : d.seat < all_seats p
  call : FitsCall p.value_words d.call

asked_head : (p : ConfigParts) (n : ℕ) (g : Given) (o : Option Reply) (dones : List Done) → IsAsked p g → AllByRecursion (IsAskedDone p) dones → AllByRecursion (IsAskedDone p) (done_in n g o ++ dones)
asked_head p n g o dones a h = search (rules, fits)

asked_dones : (p : ConfigParts) (n : ℕ) (calls : List Given) → AllByRecursion (IsAsked p) calls → AllByRecursion (IsAskedDone p) (dones_from n calls)
asked_dones p n [] h = tt
asked_dones p n (g ∷ calls) h = asked_head p n g g.reply (dones_from (n + 1) calls) h.0 (asked_dones p (n + 1) calls h.1)

-- ---- their rows

own_rows : (n : ℕ) (log : List Entry) (dones : List Done) → ((seat : ℕ) → seat < n → AreAnswered log seat (dones_by seat dones)) → AllByRecursion (λ d. d.seat < n) dones → AllByRecursion (λ d. HasOwnRows d.call d.rows) dones
own_rows n log [] h small = tt
own_rows n log (d ∷ dones) h small =
    let own = rw (same_test d.seat d.seat refl) at (h d.seat small.0) in
    (own.0.rows, own_rows n log dones (λ seat within. search rules) small.1)

-- ---- all of it

tellable : (p : ConfigParts) (counter : ℕ → ℕ) (log : List Entry) (dones : List Done) → last_version p < 2 ^ 64 → all_seats p ≤ 64 → AllByRecursion (IsAskedDone p) dones → AllByRecursion (λ d. HasOwnRows d.call d.rows) dones → HaveCauses p counter log dones → AllByRecursion (Answers log) dones
    → AllByRecursion (IsTellable p.value_words) dones
tellable p counter log [] small few a b c h = tt
tellable p counter log (d ∷ dones) small few a b c h = (
  record { seat = omega (arith, a.0.seat, few); call = a.0.call; rows = b.0; version = (search rules) },
  tellable p counter log dones small few a.1 b.1 c.1 h.1,
)

seat_there : (calls : List Given) (seats : List Place) (seat : ℕ) → seat < length seats → (a : Actor) × HasActor seats calls seat a × (a.dones ≡ dones_by seat (dones_of calls))
seat_there calls seats seat within =
    let q = there_is seats seat within in
    (actor_of calls seat q.0, record { place = q.0; here = q.1; actor_is = refl }, refl)
  where
    there_is : (xs : List Place) (i : ℕ) → i < length xs → (x : Place) × (slice_get xs i ≡ Some x)
    there_is [] i below = absurd (omega arith)
    there_is (x ∷ xs) zero below = (x, refl)
    there_is (x ∷ xs) (suc i) below = there_is xs i (omega arith)

seats_few : (a b : ℕ) → a ≤ 8 → b ≤ 8 → a * b ≤ 64
seats_few a b x y = grind arith

versions_small : (p : ConfigParts) → IsSetting p → last_version p < 2 ^ 64
versions_small p h = let le = pow_mono {i = p.bits} {j = 48} (omega (arith, h.ranged.bits.1)) in omega (arith, le)

-- the calls of a running world can be told
pub world_tellable : (s : State) → IsRunning s → AllByRecursion (IsAsked s.setting) s.calls → AllByRecursion (IsTellable s.setting.value_words) (dones_of s.calls)
world_tellable s run asked =
    let law = lawful s run in
    let p = s.setting in
    let few = seats_few p.computes p.seats run.setting.ranged.computes.1 run.setting.ranged.seats.1 in
    let are = asked_dones p 1 s.calls asked in
    let small = all_weaker (IsAskedDone p) (λ d. d.seat < length s.seats) (dones_of s.calls) (λ d h. omega (arith, h.seat, law.seats)) are in
    let own = own_rows (length s.seats) s.log (dones_of s.calls) (λ seat within. let there = seat_there s.calls s.seats seat within in subst (AreAnswered s.log seat) there.2 (law.answers seat there.0 there.1).answered) small in
    tellable p (counter_in p s.words) s.log (dones_of s.calls) (versions_small p run.setting) few are own law.causes (recursion_from_All (Answers s.log) (dones_of s.calls) law.book.lawful.answers)
