use Rattle.std.proofs.Common.{rules}
use Rattle.text.proofs.Filled.{appended}
use Rattle.text.proofs.clauses.put_spaces_at.Goals as goal

pub returns : goal.returns
returns c = appended _ _ _ _ c.put_spaces.new.out.at _ (search rules) (search rules) (search rules)
