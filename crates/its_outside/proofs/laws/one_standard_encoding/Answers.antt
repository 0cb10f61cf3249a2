use Rattle.its_outside.proofs.Encodings as laws
use Rattle.its_outside.proofs.laws.one_standard_encoding.Goals as goal

pub returns : goal.returns
returns c = laws.one_encoding
