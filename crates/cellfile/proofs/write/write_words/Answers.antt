-- `write_words` writes the header and then the words; every plain layout of that kind and size makes the same file.
use Rattle.std.proofs.Common.{rules, ap, ◌∙◌, refl}
use Rattle.cellfile.specs.Files.{onto}
use Rattle.cellfile.proofs.Bytes.{length_bytes}
use Rattle.cellfile.proofs.Outputs.{onto_next, plain_file}
use Rattle.cellfile.proofs.write.write_words.Goals as goal

pub returns : goal.returns
returns c = let a = c.args in λ l p.
    let words = rw c.record_bytes.ensures.is at c.put_numbers.ensures a.words.now refl (λ i v m q. search rules) in
    onto_next _ _ a.out.now _ 4 (length_bytes 4 _) c.put_header.ensures words
    ∙ ap (λ f. onto f a.out.now) (plain_file p a.n a.words.now)
