-- The seats' tasks, one by one.
use Rattle.std.proofs.Common.{◌≡◌, ◌<◌, ◌+◌, slice_index_or, slice_set, ◌∷◌, ◌++◌, [], ℕ, zero, suc, List, length, sym, subst, arith}
use Rattle.std.specs.Prelude.{All, Option}
use Rattle.sh_pool.specs.Passes.{PoolTable}
use Rattle.sh_base.specs.{declared.config.ConfigParts.{ConfigParts}, Setting.{all_seats}}
use Rattle.sh_sheet.specs.{declared.item.Item.{Item, TheVariants.{Ask, Mark, After, Turn}}, Sheet.{item_seat, IsLawfulItem}}
use Rattle.sh_fleet.specs.{Sharing.{AreDone, AreWorks, IsDone}, declared.{work.{Floor.{Floor}, Work.{Work}}, threads.{Serves.{Serves}, Task.{Task}}}, Tasks.{AreTasks, IsTask, IsWorkOn}}

-- what a seat's thread gives back is its work
pub joined : (f : Floor) (seat : ℕ) (x : Serves) (r w : Work) → (x.floor ≡ f) × (x.seat ≡ seat) → IsWorkOn x.floor x.seat r → w ≡ r → IsWorkOn f seat w
joined f seat x r w h back is = subst (λ (v : Work). IsWorkOn f seat v) (sym is) (subst (λ (k : ℕ). IsWorkOn f k r) h.1 (subst (λ (y : Floor). IsWorkOn y x.seat r) h.0 back))

task_at : (f : Floor) (k : ℕ) (ts : List Task) (i : ℕ) (d : Task) → AreTasks f k ts → i < length ts → IsTask f (k + i) (slice_index_or ts i d)
task_at f k [] i d h lt = absurd (omega (arith, lt))
task_at f k (t ∷ ts) zero d h lt = subst (λ (n : ℕ). IsTask f n t) (omega arith) h.0
task_at f k (t ∷ ts) (suc i) d h lt = subst (λ (n : ℕ). IsTask f n (slice_index_or ts i d)) (omega arith) (task_at f (suc k) ts i d h.1 (omega (arith, lt)))

tasks_set : (f : Floor) (k : ℕ) (ts : List Task) (i : ℕ) (t : Task) → AreTasks f k ts → IsTask f (k + i) t → AreTasks f k (slice_set ts i t)
tasks_set f k [] i t h here = tt
tasks_set f k (x ∷ ts) zero t h here = (subst (λ (n : ℕ). IsTask f n t) (omega arith) here, h.1)
tasks_set f k (x ∷ ts) (suc i) t h here = (h.0, tasks_set f (suc k) ts i t h.1 (subst (λ (n : ℕ). IsTask f n t) (omega arith) here))

pub task_at_first : (f : Floor) (ts : List Task) (i : ℕ) (d : Task) → AreTasks f 0 ts → i < length ts → IsTask f i (slice_index_or ts i d)
task_at_first f ts i d h lt = let none : 0 + i ≡ i = omega arith in subst (λ (n : ℕ). IsTask f n (slice_index_or ts i d)) none (task_at f 0 ts i d h lt)

pub task_set_first : (f : Floor) (ts : List Task) (i : ℕ) (t : Task) → AreTasks f 0 ts → IsTask f i t → AreTasks f 0 (slice_set ts i t)
task_set_first f ts i t h here = let none : 0 + i ≡ i = omega arith in tasks_set f 0 ts i t h (subst (λ (n : ℕ). IsTask f n t) (sym none) here)

-- a lawful item's seat is one of the setting's
lawful_seat : (p : ConfigParts) (it : Item) → IsLawfulItem p it → item_seat it < all_seats p
lawful_seat p (Ask seat call) h = h.0
lawful_seat p (Mark seat n) h = h
lawful_seat p (After seat n) h = h
lawful_seat p (Turn seat count) h = h

-- the seat of an item that was read is one of the setting's
pub seat_within : (p : ConfigParts) (items : List Item) (i : ℕ) (it : Item) → All (IsLawfulItem p) items → i < length items → it ≡ slice_index_or items i it → item_seat it < all_seats p
seat_within p items i it h lt is = subst (λ (x : Item). item_seat x < all_seats p) (sym is) (lawful_seat p (slice_index_or items i it) (h i it lt))

pub tasks_more : (f : Floor) (k i : ℕ) (ts : List Task) (t : Task) → i ≡ k + length ts → AreTasks f k ts → IsTask f i t → AreTasks f k (ts ++ t ∷ [])
tasks_more f k i [] t is h g = (subst (λ (n : ℕ). IsTask f n t) (omega (arith, is)) g, tt)
tasks_more f k i (x ∷ ts) t is h g = (h.0, tasks_more f (suc k) i ts t (omega (arith, is)) h.1 g)

pub done_more : (p : ConfigParts) (laid : Option PoolTable) (items : List Item) (k i : ℕ) (ws : List Work) (w : Work) → i ≡ k + length ws → AreDone p laid items k ws → IsDone p laid items i w → AreDone p laid items k (ws ++ w ∷ [])
done_more p laid items k i [] w is h g = (subst (λ (n : ℕ). IsDone p laid items n w) (omega (arith, is)) g, tt)
done_more p laid items k i (x ∷ ws) w is h g = (h.0, done_more p laid items (suc k) i ws w (omega (arith, is)) h.1 g)

pub works_left : (p : ConfigParts) (laid : Option PoolTable) (items : List Item) (i n : ℕ) (w : Work) (ws : List Work) → n ≡ i + 1 → AreWorks p laid items i (w ∷ ws) → AreWorks p laid items n ws
works_left p laid items i n w ws is h = let next : suc i ≡ n = omega (arith, is) in subst (λ (k : ℕ). AreWorks p laid items k ws) next h.1

pub tasks_left : (f : Floor) (i n : ℕ) (t : Task) (ts : List Task) → n ≡ i + 1 → AreTasks f i (t ∷ ts) → AreTasks f n ts
tasks_left f i n t ts is h = let next : suc i ≡ n = omega (arith, is) in subst (λ (k : ℕ). AreTasks f k ts) next h.1
