-- A front of a text that is written part by part.
use Rattle.std.{proofs.{Common.{rules, ℕ, ◌≡◌, ◌≢◌, refl, List, [], ◌∷◌, ◌++◌, Option, Result, Ok, Err, length, ◌==◌, false, sym, ap, append_assoc}, lemmas.List.{append-nil}}, specs.Prelude.{OnErr}}
use Rattle.std.specs.Io.KnownBytes.{Appends}
use Rattle.sh_port.{specs.Port.{AppendsFront, line_of}, proofs.Bytes.{appends_more, appends_none}}

-- a text of which a part has bytes has bytes
pub some_first : (xs ys : List ℕ) → xs ≢ [] → xs ++ ys ≢ []
some_first [] ys h e = h refl
some_first (x ∷ xs) ys h e = absurd (cc)

pub some_last : (xs ys : List ℕ) → ys ≢ [] → xs ++ ys ≢ []
some_last [] ys h e = h e
some_last (x ∷ xs) ys h e = absurd (cc)

-- nothing is written yet
pub front_none : (a : Option (List ℕ)) (text : List ℕ) → text ≢ [] → AppendsFront a a text
front_none a text some = record { front = []; rest = text; whole = refl; written = appends_none a; missed = some }

-- a front of the next part goes on from what is written
pub front_more : (a b c : Option (List ℕ)) (before part after whole : List ℕ) → whole ≡ before ++ (part ++ after) → Appends a b before → AppendsFront b c part → AppendsFront a c whole
front_more a b c before part after whole e h f = search (rules, append_assoc, appends_more, some_first)

-- a front of the first part is one of the whole
pub front_first : (a b : Option (List ℕ)) (first second : List ℕ) → AppendsFront a b first → AppendsFront a b (first ++ second)
front_first a b first second f = front_more a a b [] first second (first ++ second) refl (appends_none a) f

-- the first part is written; where the second isn't, a front of it is
pub front_behind : {E : Type 0} (a b c : Option (List ℕ)) (first second : List ℕ) (r : Result (Unit {0}) E) → Appends a b first → OnErr r (AppendsFront b c second) → OnErr r (AppendsFront a c (first ++ second))
front_behind a b c first second (Ok x) before f = tt
front_behind a b c first second (Err e) before f = front_more a b c first second [] (first ++ second) (ap (λ t. first ++ t) (sym (append-nil second))) before f

-- a front of a text that isn't empty is one of its line
pub front_of_line : (a b : Option (List ℕ)) (text : List ℕ) → (length text == 0) ≡ false → AppendsFront a b text → AppendsFront a b (line_of text)
front_of_line a b [] e f = absurd (cc)
front_of_line a b (x ∷ xs) e f = front_first a b (x ∷ xs) (10 ∷ []) f

-- the text is written; where the line feed behind it isn't, a front of the line is
pub text_of_line : {E : Type 0} (a b c : Option (List ℕ)) (text : List ℕ) (r : Result (Unit {0}) E) → (length text == 0) ≡ false → Appends a b text → OnErr r (AppendsFront b c (10 ∷ [])) → OnErr r (AppendsFront a c (line_of text))
text_of_line a b c h3 r e before f = search (rules, front_behind)
