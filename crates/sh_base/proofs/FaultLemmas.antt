-- The chain of tests of a setting's numbers.
use Rattle.std.proofs.{Common.{◌≡◌, ℕ, ◌<◌, ◌≤◌, Option, None, Some, ◌∙◌, arith}, lemmas.Bool.Decides.{nat_tests}}
use Rattle.sh_base.specs.{declared.config.{ConfigParts.{ConfigParts}, ConfigFault.{ConfigFault, TheVariants.{TooLarge}}}, Setting.{pool_words, IsRanged}, Faults.{outside, first_outside, fault_of}}

-- a test that finds no fault was passed, and so was what is tested next
passed : (n low high : ℕ) (f : ConfigFault) (next : Option ConfigFault) → outside n low high f next ≡ None → ((low ≤ n) × (n ≤ high)) × (next ≡ None)
unfolding outside
passed n low high f next e = grind (arith, nat_tests)

-- a fault that is found stays, whatever else is tested last
stays : (n low high : ℕ) (f g : ConfigFault) (next other : Option ConfigFault) → (next ≡ Some g → other ≡ Some g) → outside n low high f next ≡ Some g → outside n low high f other ≡ Some g
unfolding outside
stays n low high f g next other h e = grind (arith, nat_tests)

-- a test that is passed
within : (n low high : ℕ) (f : ConfigFault) (next : Option ConfigFault) → low ≤ n → n ≤ high → outside n low high f next ≡ next
unfolding outside
within n low high f next a b = grind (arith, nat_tests)

-- a number past the end of its range
beyond : (n low high : ℕ) (f : ConfigFault) (next : Option ConfigFault) → high < n → outside n low high f next ≡ Some f
unfolding outside
beyond n low high f next h = grind (arith, nat_tests)

pub ranged_from_none : (p : ConfigParts) → first_outside p None ≡ None → IsRanged p
unfolding first_outside
ranged_from_none p e =
    let a = passed _ _ _ _ _ e in
    let b = passed _ _ _ _ _ a.1 in
    let c = passed _ _ _ _ _ b.1 in
    let d = passed _ _ _ _ _ c.1 in
    let f = passed _ _ _ _ _ d.1 in
    let g = passed _ _ _ _ _ f.1 in
    let h = passed _ _ _ _ _ g.1 in
    let i = passed _ _ _ _ _ h.1 in
    let j = passed _ _ _ _ _ i.1 in
    let k = passed _ _ _ _ _ j.1 in
    let l = passed _ _ _ _ _ k.1 in
    let m = passed _ _ _ _ _ l.1 in
    record { servers = a.0; chunks = b.0; chunk_nodes = c.0; locks = d.0; leaf = f.0; computes = g.0; seats = h.0; bound = i.0; bits = j.0; rows = k.0; cached = l.0; value_words = m.0 }

pub fault_stays : (p : ConfigParts) (g : ConfigFault) (next : Option ConfigFault) → first_outside p None ≡ Some g → first_outside p next ≡ Some g
unfolding first_outside
fault_stays p g next = stays _ _ _ _ g _ _ (stays _ _ _ _ g _ _ (stays _ _ _ _ g _ _ (stays _ _ _ _ g _ _ (stays _ _ _ _ g _ _ (stays _ _ _ _ g _ _ (stays _ _ _ _ g _ _ (stays _ _ _ _ g _ _ (stays _ _ _ _ g _ _ (stays _ _ _ _ g _ _ (stays _ _ _ _ g _ _ (stays _ _ _ _ g _ _ (λ e. absurd (cc)))))))))))))

all_within : (p : ConfigParts) → IsRanged p → (next : Option ConfigFault) → first_outside p next ≡ next
unfolding first_outside
all_within p r next =
    within _ _ _ _ _ r.servers.0 r.servers.1
    ∙ within _ _ _ _ _ r.chunks.0 r.chunks.1
    ∙ within _ _ _ _ _ r.chunk_nodes.0 r.chunk_nodes.1
    ∙ within _ _ _ _ _ r.locks.0 r.locks.1
    ∙ within _ _ _ _ _ r.leaf.0 r.leaf.1
    ∙ within _ _ _ _ _ r.computes.0 r.computes.1
    ∙ within _ _ _ _ _ r.seats.0 r.seats.1
    ∙ within _ _ _ _ _ r.bound.0 r.bound.1
    ∙ within _ _ _ _ _ r.bits.0 r.bits.1
    ∙ within _ _ _ _ _ r.rows.0 r.rows.1
    ∙ within _ _ _ _ _ r.cached.0 r.cached.1
    ∙ within _ _ _ _ _ r.value_words.0 r.value_words.1

-- numbers in their ranges are refused by the pool's size alone
pub size_decides : (p : ConfigParts) → IsRanged p → (pool_words p ≤ 4194304 → fault_of p ≡ None) × (4194304 < pool_words p → fault_of p ≡ Some (TooLarge (pool_words p)))
size_decides p r = (
  λ small. all_within p r _ ∙ within _ _ _ _ _ (omega arith) small,
  λ large. all_within p r _ ∙ beyond _ _ _ _ _ large,
)
