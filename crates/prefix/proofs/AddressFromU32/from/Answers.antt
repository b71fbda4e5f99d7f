-- `prefix::Address::from` meets its contract. Assumes nothing.
use Rattle.prefix.proofs.AddressLaws.{bits_of_ipv4, ipv4_zeros}
use Rattle.prefix.proofs.AddressFromU32.from.Goals as goal

pub returns : goal.returns
returns c = record { first = bits_of_ipv4 c.args.word; zeros = ipv4_zeros c.args.word }
