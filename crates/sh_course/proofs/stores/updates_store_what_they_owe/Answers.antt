use Rattle.std.proofs.Common.{refl}
use Rattle.sh_map.specs.declared.call.Call.TheVariants.{Del}
use Rattle.sh_course.proofs.{Deciding.{course_decides}, Storing.{stores_entry, stores_halves, stores_leaf, stores_nothing, worn_stores_nothing}}
use Rattle.sh_course.proofs.stores.updates_store_what_they_owe.Goals as goal

pub returns-clause-entry : goal.returns-clause-entry
returns-clause-entry c = λ m n call turns before since r node depth index a h leaf slot below. stores_entry m n call r depth a node h.words since (course_decides m n call turns before since node depth a r h) h.replied index leaf slot below

pub returns-clause-leaf : goal.returns-clause-leaf
returns-clause-leaf c = λ m n call turns before since r node depth index a h leaf slot last below. stores_leaf m n call r depth a node h.words since (course_decides m n call turns before since node depth a r h) h.replied index leaf slot last below

pub returns-clause-absent : goal.returns-clause-absent
returns-clause-absent c = λ m n key turns before since r node depth a h leaf slot. stores_nothing m n (Del key) r depth a node h.words since (course_decides m n (Del key) turns before since node depth a r h) h.replied key refl leaf slot

pub returns-clause-worn : goal.returns-clause-worn
returns-clause-worn c = λ m n call turns before since r node depth version a h worn. worn_stores_nothing m n call r depth a node h.words since (course_decides m n call turns before since node depth a r h) h.replied version worn

pub returns-clause-split : goal.returns-clause-split
returns-clause-split c = λ m n call turns before since r node depth a h full not. stores_halves m n call r depth a node h.words since (course_decides m n call turns before since node depth a r h) h.replied (let ready = h.ready in let lawful = ready.setting in lawful.ranged.servers.0) full not
