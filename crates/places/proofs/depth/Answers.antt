-- `depth`: each answer, from what is found of the bytes and the words, and from what measuring says.
use Rattle.places.proofs.Reading.{read_one}
use Rattle.places.proofs.Answering.{unread, short, bounded, endless}
use Rattle.places.proofs.depth.Goals as goal

pub returns-in-Err-NoProgram : goal.returns-in-Err-NoProgram
returns-in-Err-NoProgram c = unread _ _ c.in-Err-NoProgram.ensures c.in-Err-NoProgram.field-0-is

pub returns-in-Err-FewWords : goal.returns-in-Err-FewWords
returns-in-Err-FewWords c = short _ _ c.in-Err-FewWords.ensures c.in-Err-FewWords.field-0-is

pub returns-in-Some : goal.returns-in-Some
returns-in-Some c =
    let a = c.in-Ok.ensures in
    let r = read_one c.in-Ok.read.read in
    bounded a.0 r.1 _ a.1 _ (c.in-Some.ensures r.0 r.1)

pub returns-in-None : goal.returns-in-None
returns-in-None c =
    let a = c.in-Ok.ensures in
    let r = read_one c.in-Ok.read.read in
    endless a.0 r.1 _ a.1 (c.in-None.ensures r.0 r.1)
