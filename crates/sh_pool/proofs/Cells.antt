-- Which cell a pass's lock has, and which right fits there.
use Rattle.std.proofs.{Common.{rules, ◌≡◌, ℕ, ◌/◌, ◌%◌, ◌<◌, ◌≤◌, Option, Some, ap, sym, ◌∙◌}, lemmas.Nat.{div-mul-add, mod-mul-add}}
use Rattle.atomic_table.specs.Seated.{TableId}
use Rattle.sh_base.specs.{declared.config.ConfigParts.{ConfigParts}, Parts.{parts_of}, Layout.{compute_of, lock_of}}
use Rattle.sh_client.specs.declared.state.Want.TheVariants as want
use Rattle.sh_client.{specs.{Machine.{Machine}, Wants.{want_of}}, proofs.Wanting.{leaving, looking}}
use Rattle.sh_core.specs.Actors.{Actor}
use Rattle.sh_local.specs.Chairs.{CellTable, FitsAt}
use Rattle.sh_pool_rule.specs.{Views.{lock_right, view_seat}, Rights.{depth_of, right_by, IsHanding, MeetsRight}}
use Rattle.sh_pool.specs.{Handed.{Handed}, Fitting.{cell_for, FitsCell}, Passes.{AreCellsOf, IsPass, pass_actor, Standing}, Turns.{cell_of}, declared.right.Knower.{Knower}}

pub cell_parts : (p : ConfigParts) (lock c : ℕ) → c < p.computes → (cell_for p lock c / p.computes ≡ lock) × (cell_for p lock c % p.computes ≡ c)
unfolding cell_for
cell_parts p lock c lt = (div-mul-add lock p.computes c lt, mod-mul-add lock p.computes c lt)

pub fits_cell : (z : TableId) (p : ConfigParts) (cells : Option (CellTable Knower)) (cell : ℕ) (r : Handed) → AreCellsOf z p cells → FitsAt (λ key n x. FitsCell (parts_of key.cfg) key.seat.table_id n x) cells cell r → FitsCell p z cell r
fits_cell z p cells cell r are f = search rules

pub cell_fits : (z : TableId) (p : ConfigParts) (cells : Option (CellTable Knower)) (cell : ℕ) (r : Handed) → AreCellsOf z p cells → FitsCell p z cell r → FitsAt (λ key n x. FitsCell (parts_of key.cfg) key.seat.table_id n x) cells cell r
cell_fits z p cells cell r are f = search rules

module _ (p : Standing) (i : IsPass p) (a : Actor) (is : a ≡ pass_actor p) (s : ConfigParts) (setting : p.client.setting ≡ s) (lock cell : ℕ) (at : cell ≡ cell_of p lock) where
  abbrev C : ℕ
  C = compute_of p.client.setting p.client.seat

  client_is : a.client ≡ p.client
  client_is = ap (λ (x : Actor). x.client) is ∙ sym i.tied

  lock_at : cell / s.computes ≡ lock
  lock_at = (λ k. at k / (sym setting k).computes) ∙ (cell_parts p.client.setting lock C i.within).0

  compute_at : cell % s.computes ≡ C
  compute_at = (λ k. at k % (sym setting k).computes) ∙ (cell_parts p.client.setting lock C i.within).1

  pub meets_of : (z : TableId) (r : Handed) → want_of p.client ≡ want.Look lock → FitsCell s z cell r → MeetsRight s (view_seat p.view) a.client r.view.right
  meets_of z r wants fits =
      let l = looking p.client lock wants in
      record {
        aim = l.aim;
        node = l.node;
        phase = ap (λ (m : Machine). m.phase) client_is ∙ l.phase_is;
        depth = r.depth;
        is = fits.right ∙ (λ k. Some (lock_right (lock_at k) (compute_at k) r.depth)) ∙ (λ k. Some (lock_right (sym l.lock_is k) (compute_of p.client.setting (sym i.seat_is k)) r.depth)) ∙ (λ k. Some (lock_right (lock_of (setting k) l.node) (compute_of (setting k) (view_seat p.view)) r.depth));
      }

  pub hands_of : (depth : ℕ) → want_of p.client ≡ want.Leave lock (Some depth) → IsHanding a.client
  hands_of depth wants = let l = leaving p.client lock (Some depth) wants in record { node = l.node; depth = depth; behind = l.after; phase = ap (λ (m : Machine). m.phase) client_is ∙ l.phase_is }

  carried_is : (depth : ℕ) → want_of p.client ≡ want.Leave lock (Some depth) → right_by a.client ≡ Some (lock_right lock C depth)
  carried_is depth wants = search (rules, leaving, client_is)

  pub depth_is : (depth : ℕ) → want_of p.client ≡ want.Leave lock (Some depth) → depth_of (right_by a.client) ≡ Some depth
  depth_is depth wants = ap depth_of (carried_is depth wants)

  pub fits_of : (z : TableId) (r : Handed) (depth : ℕ) → want_of p.client ≡ want.Leave lock (Some depth) → depth ≤ p.client.setting.bound → r.table ≡ z → r.view.right ≡ right_by a.client → r.depth ≡ depth → FitsCell s z cell r
  fits_of z r depth wants le table right d = search (rules, carried_is, lock_at, compute_at)
