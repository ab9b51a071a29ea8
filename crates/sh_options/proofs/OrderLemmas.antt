-- The order, by what the parse tells.
use Rattle.std.{proofs.Common.{rules, ◌≡◌, ◌<◌, ◌-◌, ◌^◌, ℕ, Bool, List, Option, Some, None, false, refl, ap, ap₂, sym, subst, ◌∙◌, arith}, specs.Prelude.{option_and_then}}
use Rattle.std.{proofs.lemmas.Bool.Decides.{nat_tests}}
use Rattle.clap.specs.{Words.{found_of}, declared.parser.matches.{ArgMatches.{ArgMatches}, Found.{Found}}}
use Rattle.sh_logic.proofs.Tests.{or_false}
use Rattle.sh_base.specs.{Faults.{fault_of, first_outside, outside}, Setting.{pool_words}, declared.config.{ConfigFault.{ConfigFault, TheVariants.{TooLarge}}, ConfigParts.{ConfigParts}}}
use Rattle.sh_sheet.specs.declared.item.Mode.{Mode, TheVariants.{Run, Replay}}
use Rattle.sh_options.specs.{Holds.{ReadsUses, Told}, Narrow.{narrow, narrow_parts, narrowed}, Order.{ReadsAs, asked_if, given_in, names_for, order_of}, declared.order.Given.{Given}}
use Rattle.sh_options.specs.Uses.{Names, Text, Use, is_among, told_by}

-- ---- the programs' own options

flag_of_a_run : (name : Text) → is_among name (names_for Replay).flags ≡ false → is_among name (names_for Run).flags ≡ false
flag_of_a_run name e = search (rules, or_false)

pub reads_as : (mode : Mode) (us : List Use) (f : Found) → ReadsUses (names_for mode) us f → ReadsAs f us
reads_as mode us f r = search (rules, flag_of_a_run)

-- ---- numbers in 32 bits

-- a number that is kept in 32 bits and passes a test is itself, and so is one that passes it as it stands
kept : (n low high : ℕ) (f : ConfigFault) (next : Option ConfigFault) → high < 2 ^ 32 - 1 → outside (narrow n) low high f next ≡ None → (narrow n ≡ n) × (next ≡ None)
unfolding outside
kept n low high f next small e = grind (arith, nat_tests)

kept_too : (n low high : ℕ) (f : ConfigFault) (next : Option ConfigFault) → high < 2 ^ 32 - 1 → outside n low high f next ≡ None → (narrow n ≡ n) × (next ≡ None)
unfolding outside
kept_too n low high f next small e = grind (arith, nat_tests)

-- A number that is tested as it stands, or as it is kept, is the same where its test is passed. So each number of a setting
-- is, where all tests are passed.
module _ (g : ℕ → ℕ) (each : (n low high : ℕ) (f : ConfigFault) (next : Option ConfigFault) → high < 2 ^ 32 - 1 → outside (g n) low high f next ≡ None → (narrow n ≡ n) × (next ≡ None)) (p : ConfigParts) where
  all_kept : (next : ConfigParts → Option ConfigFault) → (let q : ConfigParts = record { servers = g p.servers; chunks = g p.chunks; chunk_nodes = g p.chunk_nodes; locks = g p.locks; leaf = g p.leaf; computes = g p.computes; seats = g p.seats; bound = g p.bound; bits = g p.bits; rows = g p.rows; cached = g p.cached; value_words = g p.value_words } in first_outside q (next q) ≡ None)
      → narrow_parts p ≡ p
  unfolding first_outside narrow_parts
  all_kept next e =
      let (a, a') = each _ _ _ _ _ (omega arith) e in
      let (b, b') = each _ _ _ _ _ (omega arith) a' in
      let (c, c') = each _ _ _ _ _ (omega arith) b' in
      let (d, d') = each _ _ _ _ _ (omega arith) c' in
      let (f, f') = each _ _ _ _ _ (omega arith) d' in
      let (h, h') = each _ _ _ _ _ (omega arith) f' in
      let (i, i') = each _ _ _ _ _ (omega arith) h' in
      let (j, j') = each _ _ _ _ _ (omega arith) i' in
      let (k, k') = each _ _ _ _ _ (omega arith) j' in
      let (l, l') = each _ _ _ _ _ (omega arith) k' in
      let (m, m') = each _ _ _ _ _ (omega arith) l' in
      let (o, o') = each _ _ _ _ _ (omega arith) m' in
      simp (a, b, c, d, f, h, i, j, k, l, m, o)

-- so keeping the numbers in 32 bits changes no answer that is nothing where the setting is refused
pub narrow_kept : {X : Type 0} (f : ConfigParts → Option X) (p : ConfigParts) → ((q : ConfigParts) (why : ConfigFault) → fault_of q ≡ Some why → f q ≡ None) → f (narrow_parts p) ≡ f p
unfolding narrow_parts
narrow_kept f p none = go (fault_of (narrow_parts p)) (fault_of p) refl refl
  where
    size : ConfigParts → Option ConfigFault
    size q = outside (pool_words q) 0 4194304 (TooLarge (pool_words q)) None

    go : (a b : Option ConfigFault) → fault_of (narrow_parts p) ≡ a → fault_of p ≡ b → f (narrow_parts p) ≡ f p
    go None b i j = ap f (all_kept narrow kept p size i)
    go (Some w) None i j = ap f (all_kept (λ n. n) kept_too p size j)
    go (Some w) (Some v) i j = none (narrow_parts p) w i ∙ sym (none p v j)

pub narrow_same : (g : Given) → asked_if (narrowed g) ≡ asked_if g
narrow_same g = narrow_kept (λ q. asked_if (record g { parts = q })) g.parts (λ q why e. simp e)

-- ---- the order

pub given_is : {p q : ConfigParts} {a b d e : Bool} {m n s t : Option ℕ} → p ≡ q → a ≡ b → d ≡ e → m ≡ n → s ≡ t
    → (let g : Given = record { parts = p; map = a; events = d; make = m; seed = s } in let h : Given = record { parts = q; map = b; events = e; make = n; seed = t } in g ≡ h)
given_is parts map events make seed = cc

pub names_are : (mode : Mode) {options flags : List Text} → options ≡ (names_for mode).options → flags ≡ (names_for mode).flags
    → (let n : Names = record { options = options; flags = flags } in n ≡ names_for mode)
names_are mode options flags = ap₂ (λ o f. record { options = o; flags = f }) options flags

pub order_is : (mode : Mode) (n : Names) (words : List Text) (m : ArgMatches) (g : Given) → n ≡ names_for mode → Told n words m
    → ((us : List Use) → ReadsAs (found_of m) us → g ≡ narrowed (given_in us)) → order_of mode words ≡ asked_if g
unfolding order_of
order_is mode n words m g same told reads =
    let t = subst (λ (x : Names). Told x words m) same told in
    ap (option_and_then (λ us. asked_if (given_in us))) t.are ∙ sym (ap asked_if (reads t.uses (reads_as mode t.uses (found_of m) t.reads)) ∙ narrow_same (given_in t.uses))

pub no_order : (mode : Mode) (n : Names) (words : List Text) → n ≡ names_for mode → told_by n words ≡ None → order_of mode words ≡ None
unfolding order_of
no_order mode n words same none = ap (option_and_then (λ us. asked_if (given_in us))) (ap (λ (x : Names). told_by x words) (sym same) ∙ none)
