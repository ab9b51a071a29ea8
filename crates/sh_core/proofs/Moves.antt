-- Which seat has which actor: one seat's actor changes and the others stay, and what is said otherwise.
use Rattle.std.proofs.{Common.{rules, ◌≡◌, ◌≢◌, ℕ, refl, inl, inr}, lemmas.Bool.{cases_eq}}
use Rattle.sh_base.specs.declared.config.ConfigParts.{ConfigParts}
use Rattle.sh_core.{specs.{Actors.{Actor}, Core.{Instead, Moves, SameKeeps, SomeAdds}}, proofs.Others.{bounded_less}}

pub put_moves : (Has : ℕ → Actor → Type 0) (i : ℕ) (a : Actor) → Moves Has i a (Instead Has i a)
put_moves Has i a = record { back = λ j b h. h; here = inl (refl, refl); on = λ j b ne h. inr (ne, h) }

-- the actor that was put there is changed again
pub put_again : (Has Now : ℕ → Actor → Type 0) (i : ℕ) (a b : Actor) → Moves Has i b Now → Moves (Instead Has i a) i b Now
put_again h0 h1 i a b mv = search rules

-- the seat has this actor alone, and what the others have was there before and is there still
pub moves_from : (Has Now : ℕ → Actor → Type 0) (i : ℕ) (a : Actor) → Now i a → ((b : Actor) → Now i b → b ≡ a) → ((j : ℕ) (b : Actor) → j ≢ i → Now j b → Has j b) → ((j : ℕ) (b : Actor) → j ≢ i → Has j b → Now j b) → Moves Has i a Now
moves_from h0 h1 i a here only back on = search (rules, cases_eq)

pub same_keeps : (p : ConfigParts) → SameKeeps p
same_keeps p words log Has Now Out After inv same rights = record {
  scene = inv.scene;
  log_is = inv.log_is;
  ground = inv.ground;
  bounded = λ server lt. bounded_less p.chunks _ (inv.scene.counter server) (λ j. SomeAdds p Has server j) (λ j. SomeAdds p Now server j) (λ j w. (w.0, same.back j w.0 w.1, w.2)) (inv.bounded server lt);
  kept = λ j b h. inv.kept j b (same.back j b h);
  held = λ j l o. let h = inv.held j l o in (h.0, same.on j h.0 h.1);
  pends = λ j n e. let h = inv.pends j n e in (h.0, same.on j h.0 h.1);
  skips = λ j n e. let h = inv.skips j n e in (h.0, same.on j h.0 h.1);
  makes = λ j e. let h = inv.makes j e in (h.0, same.on j h.0 h.1);
  given = λ l c d e. rights.on l c d (inv.given l c d e);
  out = λ l c d o. inv.out l c d (rights.back l c d o);
}
