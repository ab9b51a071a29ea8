use Rattle.sh_feed.proofs.{Owners.{owned}, Plain.{as_given, greatest, left_is, by_count, by_ends}}
use Rattle.sh_feed.proofs.laws.books_of_a_feed.Goals as goal

pub returns-clause-taken : goal.returns-clause-taken
returns-clause-taken c = as_given

pub returns-clause-greatest : goal.returns-clause-greatest
returns-clause-greatest c = greatest

pub returns-clause-left_is : goal.returns-clause-left_is
returns-clause-left_is c = left_is

pub returns-clause-by_count : goal.returns-clause-by_count
returns-clause-by_count c = by_count

pub returns-clause-by_ends : goal.returns-clause-by_ends
returns-clause-by_ends c = by_ends

pub returns-clause-owners : goal.returns-clause-owners
returns-clause-owners c = owned
