-- The theorem of specs/laws/Blocks.antt.
use Rattle.delivery_csv.specs.laws.Blocks.{block_by_block}
use Rattle.delivery_csv.proofs.block_by_block.Goals as goal

pub returns : goal.returns
returns c = block_by_block
