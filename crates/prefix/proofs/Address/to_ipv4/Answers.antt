-- `prefix::Address::to_ipv4` meets its contract. Assumes nothing.
use mathlib.Core.Path.{sym}
use Rattle.prefix.proofs.AddressLaws.{first_word}
use Rattle.prefix.proofs.Address.to_ipv4.Goals as goal

pub returns : goal.returns
returns c = sym (first_word c.args.self)
