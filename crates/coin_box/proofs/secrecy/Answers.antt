-- The theorem of proofs/laws/Secrecy.antt.
use Rattle.coin_box.proofs.laws.Secrecy.{secret}
use Rattle.coin_box.proofs.secrecy.Goals as goal

pub returns : goal.returns
returns c = secret
