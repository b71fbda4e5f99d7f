-- `answers::put_miss` meets its contract. Assumes nothing.
use Rattle.answers.proofs.WritingLaws.{wrote_miss}
use Rattle.answers.proofs.put_miss.Goals as goal

pub returns : goal.returns
returns c =
    let examined = c in
    let bits = examined.before in
    let address = bits.before in
    let hop = address.before in
    wrote_miss _ _ _ _ hop.put-i.ensures.written address.put_address-j.ensures.written bits.put-k.ensures.written examined.put-m.ensures.written c.put_word.ensures
