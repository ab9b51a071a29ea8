-- The records of a text from a state on, one by one.
use Rattle.std.proofs.Common.{rules, ℕ, zero, suc, ◌≡◌, ◌≤◌, ◌<◌, ◌+◌, ◌-◌, Bool, true, false, List, [], ◌∷◌, ◌++◌, length, Option, Some, None, refl, sym, ap, subst, ◌∙◌, inl, arith, add-one}
use Rattle.std.specs.Prelude.{if◌then◌else◌}
use Rattle.csv.specs.Machine.{Read, next_record, step, is_end, fields_after, field_after, ends_at_end}
use Rattle.csv.specs.Reading.{records_from, records_next, default_config, ReadRecord, Ready, Reached, source_of, reader_config, reader_state, reader_trim, took_first}
use Rattle.csv.{proofs.ReadFacts.{rows-end, rows-more}, specs.declared.{parser.{Config.{Config}, State.{State}}, reader.Reader.{Reader}}}
use Rattle.csv.specs.declared.parser.State.TheVariants as st
use Rattle.csv.specs.declared.reader.Trim.TheVariants as trim

-- the records of a text from a state on
abbrev pub records_at : State → List ℕ → List (List (List ℕ))
records_at s xs = records_from default_config (length xs + 1) s xs

-- after the read at most k bytes are left, if it gave a record
LeavesAtMost : ℕ → Option Read → Type 0
LeavesAtMost k None = Unit {0}
LeavesAtMost k (Some p) = length p.2 ≤ k

leaves_more : (o : Option Read) (j k : ℕ) → j ≤ k → LeavesAtMost j o → LeavesAtMost k o
unfolding LeavesAtMost
leaves_more None j k h e = tt
leaves_more (Some p) j k h e = omega arith

-- a record takes at least a byte, if there is one
shorter : (cfg : Config) (s : State) (fields : List (List ℕ)) (field xs : List ℕ) → LeavesAtMost (length xs - 1) (next_record cfg s fields field xs)
unfolding next_record LeavesAtMost
shorter cfg s fields field [] =
    elim (ends_at_end s) as (λ b. LeavesAtMost (length {A = ℕ} [] - 1) (if b then Some (fields ++ (field ∷ []), st.StartRecord, []) else None)) [ true ↦ omega arith | false ↦ tt ]
shorter cfg s fields field (c ∷ rest) =
    let next : Option Read = next_record cfg (step cfg s c).0 (fields_after (step cfg s c).1 fields field) (field_after (step cfg s c).1 c field) rest in
    let ih : LeavesAtMost (length rest - 1) next = shorter cfg (step cfg s c).0 (fields_after (step cfg s c).1 fields field) (field_after (step cfg s c).1 c field) rest in
    elim (is_end (step cfg s c).1) as (λ b. LeavesAtMost (length (c ∷ rest) - 1) (if b then Some (fields_after (step cfg s c).1 fields field, (step cfg s c).0, rest) else next)) [
      | true ↦ omega arith
      | false ↦ leaves_more next (length rest - 1) (length (c ∷ rest) - 1) (omega arith) ih
    ]

-- nothing is left to read
none_left : (cfg : Config) (n : ℕ) → records_from cfg n st.StartRecord [] ≡ []
unfolding records_from next_record
none_left cfg zero = refl
none_left cfg (suc n) = refl

-- the same read, with as many turns as one likes
next_same : (cfg : Config) (n m k : ℕ) (o : Option Read) → LeavesAtMost k o
    → ((s : State) (ys : List ℕ) → length ys ≤ k → records_from cfg n s ys ≡ records_from cfg m s ys)
    → records_next (records_from cfg n) o ≡ records_next (records_from cfg m) o
unfolding LeavesAtMost
next_same cfg n m k None h same = refl
next_same cfg n m k (Some p) h same = ap (λ t. p.0 ∷ t) (same p.1 p.2 h)

-- at the end of the text
last_same : (cfg : Config) (n m : ℕ) (b : Bool)
    → records_next (records_from cfg n) (if b then Some (([] ∷ []), st.StartRecord, []) else None)
    ≡ records_next (records_from cfg m) (if b then Some (([] ∷ []), st.StartRecord, []) else None)
last_same cfg n m true = ap (λ t. ([] ∷ []) ∷ t) (none_left cfg n ∙ sym (none_left cfg m))
last_same cfg n m false = refl

-- more turns than bytes give the same records
turns_same : (cfg : Config) (n m : ℕ) (s : State) (xs : List ℕ) → length xs < n → length xs < m → records_from cfg n s xs ≡ records_from cfg m s xs
unfolding records_from next_record
turns_same cfg zero m s xs h k = absurd (omega arith)
turns_same cfg (suc n) zero s xs h k = absurd (omega arith)
turns_same cfg (suc n) (suc m) s [] h k = last_same cfg n m (ends_at_end s)
turns_same cfg (suc n) (suc m) s (c ∷ rest) h k =
    next_same cfg n m (length rest) (next_record cfg s [] [] (c ∷ rest)) (leaves_more _ _ _ (omega arith) (shorter cfg s [] [] (c ∷ rest)))
    (λ t ys le. turns_same cfg n m t ys (omega arith) (omega arith))

leaves_some : (o : Option Read) (k : ℕ) (p : Read) → o ≡ Some p → LeavesAtMost k o → length p.2 ≤ k
unfolding LeavesAtMost
leaves_some o k p e h = rw e at h

one_turn : (n : ℕ) (s : State) (xs : List ℕ) (p : Read) → next_record default_config s [] [] xs ≡ Some p → records_from default_config (suc n) s xs ≡ p.0 ∷ records_from default_config n p.1 p.2
unfolding records_from
one_turn n s xs p e = rw e

last_turn : (n : ℕ) (s : State) (xs : List ℕ) → next_record default_config s [] [] xs ≡ None → records_from default_config (suc n) s xs ≡ []
unfolding records_from
last_turn n s xs e = rw e

-- the record that the end of the text ends
last_record : (b : Bool) (p : Read) → (if b then Some (([] ∷ []), st.StartRecord, []) else None) ≡ Some p
    → records_next (records_from default_config 0) (if b then Some (([] ∷ []), st.StartRecord, []) else None) ≡ p.0 ∷ records_at p.1 p.2
last_record true p e =
    let first : Read = (([] ∷ []), st.StartRecord, []) in
    let same : first ≡ p = cc in
    subst (λ (r : Read). records_next (records_from default_config 0) (Some first) ≡ r.0 ∷ records_at r.1 r.2) same (ap (λ t. ([] ∷ []) ∷ t) (none_left default_config 0 ∙ sym (none_left default_config 1)))
last_record false p e = cc

-- one record, and then those after it
pub records_more : (s : State) (xs : List ℕ) (p : Read) → next_record default_config s [] [] xs ≡ Some p → records_at s xs ≡ p.0 ∷ records_at p.1 p.2
unfolding records_from next_record
records_more s [] p e = last_record (ends_at_end s) p e
records_more s (c ∷ rest) p e =
    let fewer = leaves_some _ _ p e (shorter default_config s [] [] (c ∷ rest)) in
    ap (λ n. records_from default_config n s (c ∷ rest)) (add-one (suc (length rest)))
    ∙ (one_turn (suc (length rest)) s (c ∷ rest) p e ∙ ap (λ t. p.0 ∷ t) (turns_same default_config (suc (length rest)) (length p.2 + 1) p.1 p.2 (omega arith) (omega arith)))

-- no record is left
pub records_end : (s : State) (xs : List ℕ) → next_record default_config s [] [] xs ≡ None → records_at s xs ≡ []
records_end s xs e = ap (λ n. records_from default_config n s xs) (add-one (length xs)) ∙ last_turn (length xs) s xs e

-- a reader that has just these records left, and may go on
pub record IsReading {R : Type 0} (left : R → Option (List ℕ)) (reader : Reader R) (turns : ℕ) (rows : List (List (List ℕ))) : Type 0 where
  pub plain : reader_trim reader ≡ trim.None
  pub ready : Ready reader
  pub config : reader_config reader ≡ default_config
  pub more : 0 < turns
  pub rest : List ℕ
  pub known : source_of left reader ≡ Some rest
  pub whole : rows ≡ records_at (reader_state reader) rest

joined : (s : State) (xs : List ℕ) (p : Read) (fields : List (List ℕ)) (t : State) (ys : List ℕ) → records_at s xs ≡ p.0 ∷ records_at p.1 p.2
    → fields ≡ p.0 → p.1 ≡ t → p.2 ≡ ys → records_at s xs ≡ fields ∷ records_at t ys
joined s xs p fields t ys e at_fields at_state at_rest = cc

-- after one more record
pub reading_more : {R : Type 0} (left : R → Option (List ℕ)) (a b : Reader R) (n m : ℕ) (rows : List (List (List ℕ))) (fields : List (List ℕ))
    → IsReading left a n rows → ReadRecord left a b true fields → took_first b ≡ true → 0 < m
    → (more : List (List (List ℕ))) × (rows ≡ fields ∷ more) × IsReading left b m more
unfolding Reached
reading_more left a b n m rows fields was took first turns =
    let next = rows-more left a b fields default_config a.state was.rest was.rest [] was.config was.known (refl, refl) took in
    let (z, at_z, (p, is_p, at_fields, (at_state, at_rest))) = next in (
      records_at b.state z,
      was.whole ∙ joined a.state was.rest p fields b.state z (records_more a.state was.rest p is_p) at_fields at_state at_rest,
      record {
        plain = took.3 ∙ was.plain;
        ready = inl first;
        config = took.2 ∙ was.config;
        more = turns;
        rest = z;
        known = at_z;
        whole = refl;
      },
    )

-- after the last record
pub reading_end : {R : Type 0} (left : R → Option (List ℕ)) (a b : Reader R) (n : ℕ) (rows : List (List (List ℕ))) (fields : List (List ℕ))
    → IsReading left a n rows → ReadRecord left a b false fields → rows ≡ []
reading_end left a b n rows fields was none = search (rules, records_end, rows-end)
