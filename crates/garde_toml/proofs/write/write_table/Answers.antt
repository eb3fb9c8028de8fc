use Rattle.garde_toml.proofs.Spelling.{brace_first}
use Rattle.garde_toml.proofs.write.write_table.Goals as goal

pub returns : goal.returns
returns c =
    let began = c.in_ok-begin_object.ensures in
    brace_first _ c.args.out.now c.begin_object.new.self c.write_members.new.out _ began.room.0 began.ok c.write_members.ensures
