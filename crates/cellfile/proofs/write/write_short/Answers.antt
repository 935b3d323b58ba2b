-- `write_short` writes the header, the carried points and then the entries.
use Rattle.std.proofs.Common.{rules, ap, ◌∙◌, ◌≡◌, map, length, arith}
use Rattle.std.proofs.lemmas.List.{length-map}
use Rattle.cellfile.specs.Files.{onto}
use Rattle.cellfile.specs.Words.{word_of_short}
use Rattle.cellfile.proofs.Bytes.{length_bytes}
use Rattle.cellfile.proofs.Outputs.{onto_next, length_head, short_file_is, row_word}
use Rattle.cellfile.proofs.write.write_short.Goals as goal

pub returns : goal.returns
returns c es h = let a = c.args in
    let count : a.m ≡ length (map word_of_short es) = omega (arith, h.count, length-map es word_of_short) in
    let rows =
    rw c.record_bytes.ensures.is at c.put_numbers.ensures (map word_of_short es) count
    (λ i v l p. let e = row_word h i l in search rules) in
    onto_next _ _ a.out.now _ 12 (length_head _ _)
    (onto_next _ _ a.out.now _ 4 (length_bytes 4 _) c.put_header.ensures c.put_number.ensures) rows
    ∙ ap (λ f. onto f a.out.now) (short_file_is a.n a.carried es h.count)
