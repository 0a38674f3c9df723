-- Both sections are read as their values, and the answer and the buffer are those of `save_memory` on them.
use Rattle.memory.specs.BlockCallLaws.{save_done}
use Rattle.memory.proofs.save.Goals as goal

pub returns : goal.returns
returns c =
    save_done c.args.area.now c.in-Some.ensures.cases.long c.args.buffer.now (rw c.in-Some.ensures.cases.same at c.read_values-empirical.ensures)
    (rw c.in-Some.ensures.cases.same at c.read_values-means.ensures) c.save_memory.ensures.value c.save_memory.ensures.buffer_after
