-- What the words of a walk's run were.
use Rattle.std.proofs.{Common.{rules, ◌≡◌, ◌⊎◌, ℕ, ◌+◌, ◌-◌, ◌%◌, ◌<◌, ◌≤◌, List, [], ◌∷◌, ◌++◌, inl, inr, refl, sym, ap, subst, ◌∙◌, arith}, Math.Nat.{mod-eq_of_lt, add-mod_right}, lemmas.Nat.{mod_below}}
use Rattle.std.proofs.lemmas.Bool.{cases_lt, Decides.{nat_tests}}
use Rattle.sh_base.specs.{declared.config.ConfigParts.{ConfigParts}, Layout.{counter_word}}
use Rattle.sh_alloc.specs.declared.state.{Phase.{Phase, TheVariants.{Loading, Adding, Found, Spent}}, Walk.{Walk}, ChunkWant.{ChunkWant, TheVariants.{Got, AllSpent}}}
use Rattle.sh_alloc.specs.{Walks.{walk_at, walk_start, walk_wants, walk_fed, run_of}, Chunks.{Asks, FindsSpent, FindsChunk}}

abbrev Runs : Phase → Type 0
Runs Loading = Unit {0}
Runs Adding = Unit {0}
Runs phase = ⊥

module _ (p : ConfigParts) where
  -- a walk that has ended stays
  stays_spent : (f n : ℕ) (words : List ℕ) → run_of p (walk_at f n Spent) words ≡ walk_at f n Spent
  stays_spent f n [] = refl
  stays_spent f n (x ∷ words) = stays_spent f n words

  stays_found : (f n chunk : ℕ) (words : List ℕ) → run_of p (walk_at f n (Found chunk)) words ≡ walk_at f n (Found chunk)
  stays_found f n chunk [] = refl
  stays_found f n chunk (x ∷ words) = stays_found f n chunk words

  -- the steps of a walk that runs
  loads : (f n x : ℕ) → x < p.chunks → walk_fed p (walk_at f n Loading) x ≡ walk_at f n Adding
  loads f n x below = grind (arith, nat_tests)

  adds : (f n x : ℕ) → x < p.chunks → walk_fed p (walk_at f n Adding) x ≡ walk_at f n (Found x)
  adds f n x below = grind (arith, nat_tests)

  passes : (f n x : ℕ) (phase : Phase) → Runs phase → p.chunks ≤ x → n + 1 < p.servers → walk_fed p (walk_at f n phase) x ≡ walk_at f (n + 1) Loading
  passes f n x phase runs spent more = search rules

  ends : (f n x : ℕ) (phase : Phase) → Runs phase → p.chunks ≤ x → p.servers ≤ n + 1 → walk_fed p (walk_at f n phase) x ≡ walk_at f n Spent
  ends f n x phase runs spent last = search rules

  -- a run's end, after its first word
  ends_as : (want : ChunkWant) (w v : Walk) (x : ℕ) (words : List ℕ) → walk_fed p w x ≡ v → walk_wants p (run_of p w (x ∷ words)) ≡ want → walk_wants p (run_of p v words) ≡ want
  ends_as want w v x words step h = subst (λ (u : Walk). walk_wants p (run_of p u words) ≡ want) step h

  -- one word more in front
  spent_later : (w v : Walk) (x : ℕ) (words : List ℕ) (server : ℕ) → walk_fed p w x ≡ v → FindsSpent p v words server → FindsSpent p w (x ∷ words) server
  spent_later w v x words server step h =
      let g : FindsSpent p (walk_fed p w x) words server = subst (λ (u : Walk). FindsSpent p u words server) (sym step) h in
      record { before = x ∷ g.before; word = g.word; after = g.after; whole = ap (λ l. x ∷ l) g.whole; asks = g.asks; spent = g.spent }

  chunk_later : (w v : Walk) (x : ℕ) (words : List ℕ) (server chunk : ℕ) → walk_fed p w x ≡ v → FindsChunk p v words server chunk → FindsChunk p w (x ∷ words) server chunk
  chunk_later w v x words server chunk step h =
      let g : FindsChunk p (walk_fed p w x) words server chunk = subst (λ (u : Walk). FindsChunk p u words server chunk) (sym step) h in
      record { before = x ∷ g.before; after = g.after; whole = ap (λ l. x ∷ l) g.whole; asks = g.asks; below = g.below; ends = g.ends }

  spent_here : (f n x : ℕ) (phase : Phase) (words : List ℕ) → Runs phase → p.chunks ≤ x → FindsSpent p (walk_at f n phase) (x ∷ words) ((f + n) % p.servers)
  spent_here f n x Loading words runs spent = record { before = []; word = x; after = words; whole = refl; asks = refl; spent = spent }
  spent_here f n x Adding words runs spent = record { before = []; word = x; after = words; whole = refl; asks = refl; spent = spent }
  spent_here f n x (Found chunk) words runs spent = absurd runs
  spent_here f n x Spent words runs spent = absurd runs

  -- a run that ends with all spent, from the n-th server on, found each later one spent
  all_spent : (f n : ℕ) (phase : Phase) (words : List ℕ) (k : ℕ) → Runs phase → n ≤ k → k < p.servers → walk_wants p (run_of p (walk_at f n phase) words) ≡ AllSpent → FindsSpent p (walk_at f n phase) words ((f + k) % p.servers)
  all_spent f n Loading [] k runs from below h = absurd (cc)
  all_spent f n Adding [] k runs from below h = absurd (cc)
  all_spent f n (Found chunk) [] k runs from below h = absurd runs
  all_spent f n Spent [] k runs from below h = absurd runs
  all_spent f n phase (x ∷ words) k runs from below h = elim (cases_lt x p.chunks) [
    | inl less ↦ in_time phase runs less h (all_spent f n Adding words k tt from below)
    | inr spent ↦ elim (cases_lt n k) [
      | inl later ↦
          let step = passes f n x phase runs spent (omega arith) in
          let w = walk_at f n phase in
          let v = walk_at f (n + 1) Loading in
          spent_later w v x words _ step (all_spent f (n + 1) Loading words k tt (omega arith) below (ends_as AllSpent w v x words step h))
      | inr here ↦ subst (λ i. FindsSpent p (walk_at f n phase) (x ∷ words) ((f + i) % p.servers)) (omega arith) (spent_here f n x phase words runs spent)
    ]
  ]
    where
      in_time : (phase : Phase) → Runs phase → x < p.chunks → walk_wants p (run_of p (walk_at f n phase) (x ∷ words)) ≡ AllSpent → (walk_wants p (run_of p (walk_at f n Adding) words) ≡ AllSpent → FindsSpent p (walk_at f n Adding) words ((f + k) % p.servers)) → FindsSpent p (walk_at f n phase) (x ∷ words) ((f + k) % p.servers)
      in_time Loading runs less h then =
          let w = walk_at f n Loading in
          let v = walk_at f n Adding in
          spent_later w v x words _ (loads f n x less) (then (ends_as AllSpent w v x words (loads f n x less) h))
      in_time Adding runs less h then = absurd (let e = ends_as AllSpent (walk_at f n Adding) (walk_at f n (Found x)) x words (adds f n x less) h in let s = stays_found f n x words in cc)
      in_time (Found chunk) runs less h then = absurd runs
      in_time Spent runs less h then = absurd runs

  same_got : {s t c d : ℕ} → Got s c ≡ Got t d → (s ≡ t) × (c ≡ d)
  same_got h = (cc, cc)

  chunk_here : (f n x : ℕ) (words : List ℕ) (server chunk : ℕ) → x < p.chunks → (f + n) % p.servers ≡ server → x ≡ chunk → FindsChunk p (walk_at f n Adding) (x ∷ words) server chunk
  chunk_here f n x words server chunk less at is =
      let ended : walk_wants p (run_of p (walk_at f n Adding) (x ∷ [])) ≡ Got ((f + n) % p.servers) x = ap (walk_wants p) (adds f n x less) in
      subst (λ s. FindsChunk p (walk_at f n Adding) (x ∷ words) s chunk) at
      (subst (λ c. FindsChunk p (walk_at f n Adding) (x ∷ words) ((f + n) % p.servers) c) is
      (record { before = []; after = words; whole = refl; asks = refl; below = less; ends = ended }))

  -- a run that ends with a chunk got it by its last add
  chunk_found : (f n : ℕ) (phase : Phase) (words : List ℕ) (server chunk : ℕ) → Runs phase → walk_wants p (run_of p (walk_at f n phase) words) ≡ Got server chunk → FindsChunk p (walk_at f n phase) words server chunk
  chunk_found f n Loading [] server chunk runs h = absurd (cc)
  chunk_found f n Adding [] server chunk runs h = absurd (cc)
  chunk_found f n (Found c) [] server chunk runs h = absurd runs
  chunk_found f n Spent [] server chunk runs h = absurd runs
  chunk_found f n phase (x ∷ words) server chunk runs h = elim (cases_lt x p.chunks) [
    | inl less ↦ in_time phase runs less h (chunk_found f n Adding words server chunk tt)
    | inr spent ↦ elim (cases_lt (n + 1) p.servers) [
      | inl more ↦
          let step = passes f n x phase runs spent more in
          let w = walk_at f n phase in
          let v = walk_at f (n + 1) Loading in
          chunk_later w v x words server chunk step (chunk_found f (n + 1) Loading words server chunk tt (ends_as (Got server chunk) w v x words step h))
      | inr last ↦ absurd (let e = ends_as (Got server chunk) (walk_at f n phase) (walk_at f n Spent) x words (ends f n x phase runs spent last) h in let s = stays_spent f n words in cc)
    ]
  ]
    where
      in_time : (phase : Phase) → Runs phase → x < p.chunks → walk_wants p (run_of p (walk_at f n phase) (x ∷ words)) ≡ Got server chunk → (walk_wants p (run_of p (walk_at f n Adding) words) ≡ Got server chunk → FindsChunk p (walk_at f n Adding) words server chunk) → FindsChunk p (walk_at f n phase) (x ∷ words) server chunk
      in_time Loading runs less h then =
          let w = walk_at f n Loading in
          let v = walk_at f n Adding in
          chunk_later w v x words server chunk (loads f n x less) (then (ends_as (Got server chunk) w v x words (loads f n x less) h))
      in_time Adding runs less h then =
          let e = ends_as (Got server chunk) (walk_at f n Adding) (walk_at f n (Found x)) x words (adds f n x less) h in
          let g = same_got (sym (ap (walk_wants p) (stays_found f n x words)) ∙ e) in
          chunk_here f n x words server chunk less g.0 g.1
      in_time (Found c) runs less h then = absurd runs
      in_time Spent runs less h then = absurd runs

  -- each server is the k-th from the first one on
  pub spent_by_run : (seat : ℕ) (words : List ℕ) (server : ℕ) → server < p.servers → walk_wants p (run_of p (walk_start p seat) words) ≡ AllSpent → FindsSpent p (walk_start p seat) words server
  spent_by_run seat words server below h =
      let f = seat % p.servers in
      let first : f < p.servers = mod_below seat p.servers (omega arith) in
      elim (cases_lt server f) [
        | inl before ↦
            let sum : f + (server + p.servers - f) ≡ server + p.servers = omega arith in
            let at : (f + (server + p.servers - f)) % p.servers ≡ server = ap (λ i. i % p.servers) sum ∙ add-mod_right server p.servers ∙ mod-eq_of_lt below in
            subst (λ s. FindsSpent p (walk_start p seat) words s) at (all_spent f 0 Loading words (server + p.servers - f) tt (omega arith) (omega arith) h)
        | inr behind ↦
            let sum : f + (server - f) ≡ server = omega arith in
            let at : (f + (server - f)) % p.servers ≡ server = ap (λ i. i % p.servers) sum ∙ mod-eq_of_lt below in
            subst (λ s. FindsSpent p (walk_start p seat) words s) at (all_spent f 0 Loading words (server - f) tt (omega arith) (omega arith) h)
      ]

  pub chunk_by_run : (seat : ℕ) (words : List ℕ) (server chunk : ℕ) → walk_wants p (run_of p (walk_start p seat) words) ≡ Got server chunk → FindsChunk p (walk_start p seat) words server chunk
  chunk_by_run seat words server chunk h = chunk_found (seat % p.servers) 0 Loading words server chunk tt h

  -- a run's word that was found at a limit is its first, or one of a run from the second on
  first_or_later : (w : Walk) (x : ℕ) (words : List ℕ) (server : ℕ) → FindsSpent p w (x ∷ words) server → (Asks (walk_wants p w) (counter_word p server) × (p.chunks ≤ x)) ⊎ FindsSpent p (walk_fed p w x) words server
  first_or_later w x words server h = by_front h.before h.word h.after h.whole h.asks h.spent
    where
      by_front : (before : List ℕ) (word : ℕ) (after : List ℕ) → (x ∷ words) ≡ before ++ (word ∷ after) → Asks (walk_wants p (run_of p w before)) (counter_word p server) → p.chunks ≤ word → (Asks (walk_wants p w) (counter_word p server) × (p.chunks ≤ x)) ⊎ FindsSpent p (walk_fed p w x) words server
      by_front [] word after whole asks spent = let e : x ≡ word = cc in inl (asks, omega (arith, e, spent))
      by_front (y ∷ before) word after whole asks spent =
          let e : y ≡ x = cc in
          let rest : words ≡ before ++ (word ∷ after) = cc in
          inr (record { before = before; word = word; after = after; whole = rest; asks = subst (λ z. Asks (walk_wants p (run_of p (walk_fed p w z) before)) (counter_word p server)) e asks; spent = spent })

  -- servers less than once round apart are two
  mod_once : (a : ℕ) → p.servers ≤ a → a < p.servers + p.servers → a % p.servers ≡ a - p.servers
  mod_once a low high = search (rules, add-mod_right, mod-eq_of_lt)

  apart : (f n k : ℕ) → f < p.servers → n < k → k < p.servers → (f + n) % p.servers ≡ (f + k) % p.servers → ⊥
  apart f n k first less below same = search (rules, mod-eq_of_lt, mod_once)

  -- a walk that has its chunk asks for no more
  asks_none : (f n c : ℕ) (words : List ℕ) (server : ℕ) → FindsSpent p (walk_at f n (Found c)) words server → ⊥
  asks_none f n c words server h = subst (λ (u : Walk). Asks (walk_wants p u) (counter_word p server)) (stays_found f n c h.before) h.asks

  -- a run that found the n-th server and each later one spent ends with all spent
  ends_spent : (f n : ℕ) (phase : Phase) (words : List ℕ) → Runs phase → f < p.servers → n < p.servers → ((k : ℕ) → n ≤ k → k < p.servers → FindsSpent p (walk_at f n phase) words ((f + k) % p.servers)) → walk_wants p (run_of p (walk_at f n phase) words) ≡ AllSpent
  ends_spent f n phase [] runs first below found = let h = found n (omega arith) below in absurd (nothing h.before h.word h.after h.whole)
    where
      nothing : (before : List ℕ) (word : ℕ) (after : List ℕ) → [] ≡ before ++ (word ∷ after) → ⊥
      nothing [] word after e = cc
      nothing (y ∷ before) word after e = cc
  ends_spent f n phase (x ∷ words) runs first below found = elim (cases_lt x p.chunks) [
    | inl less ↦ in_time phase runs less found (ends_spent f n Adding words tt first below)
    | inr spent ↦ elim (cases_lt (n + 1) p.servers) [
      | inl more ↦
          let step = passes f n x phase runs spent more in
          ap (λ (u : Walk). walk_wants p (run_of p u words)) step ∙ ends_spent f (n + 1) Loading words tt first more
          (λ k from k_below. elim (first_or_later (walk_at f n phase) x words ((f + k) % p.servers) (found k (omega arith) k_below)) [
            | inl here ↦ absurd (apart f n k first (omega arith) k_below (same_server phase runs k here.0))
            | inr later ↦ subst (λ (u : Walk). FindsSpent p u words ((f + k) % p.servers)) step later
          ])
      | inr last ↦ ap (λ (u : Walk). walk_wants p (run_of p u words)) (ends f n x phase runs spent last) ∙ ap (walk_wants p) (stays_spent f n words)
    ]
  ]
    where
      same_server : (phase : Phase) → Runs phase → (k : ℕ) → Asks (walk_wants p (walk_at f n phase)) (counter_word p ((f + k) % p.servers)) → (f + n) % p.servers ≡ (f + k) % p.servers
      same_server Loading runs k asks = omega (arith, asks)
      same_server Adding runs k asks = omega (arith, asks)
      same_server (Found c) runs k asks = absurd runs
      same_server Spent runs k asks = absurd runs

      in_time : (phase : Phase) → Runs phase → x < p.chunks → ((k : ℕ) → n ≤ k → k < p.servers → FindsSpent p (walk_at f n phase) (x ∷ words) ((f + k) % p.servers)) → (((k : ℕ) → n ≤ k → k < p.servers → FindsSpent p (walk_at f n Adding) words ((f + k) % p.servers)) → walk_wants p (run_of p (walk_at f n Adding) words) ≡ AllSpent) → walk_wants p (run_of p (walk_at f n phase) (x ∷ words)) ≡ AllSpent
      in_time Loading runs less found then =
          let step = loads f n x less in
          ap (λ (u : Walk). walk_wants p (run_of p u words)) step ∙ then
          (λ k from k_below. elim (first_or_later (walk_at f n Loading) x words ((f + k) % p.servers) (found k from k_below)) [
            | inl here ↦ absurd (omega (arith, here.1))
            | inr later ↦ subst (λ (u : Walk). FindsSpent p u words ((f + k) % p.servers)) step later
          ])
      in_time Adding runs less found then = elim (first_or_later (walk_at f n Adding) x words ((f + n) % p.servers) (found n (omega arith) below)) [
        | inl here ↦ absurd (omega (arith, here.1))
        | inr later ↦ absurd (asks_none f n x words ((f + n) % p.servers) (subst (λ (u : Walk). FindsSpent p u words ((f + n) % p.servers)) (adds f n x less) later))
      ]
      in_time (Found c) runs less found then = absurd runs
      in_time Spent runs less found then = absurd runs

  pub run_by_spent : (seat : ℕ) (words : List ℕ) → 1 ≤ p.servers → ((server : ℕ) → server < p.servers → FindsSpent p (walk_start p seat) words server) → walk_wants p (run_of p (walk_start p seat) words) ≡ AllSpent
  run_by_spent seat words some found = search (rules, ends_spent, mod_below)
