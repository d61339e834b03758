-- The words that commands begin with.
use Rattle.std.specs.Prelude.{ℕ, cond, List, Some, None, codes, Option}
use Rattle.std.specs.Str.{bytes_eq}
use Rattle.script.specs.declared.names.Name.{Name}
use Rattle.script.specs.declared.names.Name.TheVariants.{Store, Text, Memory, TokenBook, LineBook, Correct, Token, Line, Where, Time, Copy, Alike}

abbrev pub name_of : List ℕ → Option Name
name_of w =
    cond (bytes_eq w (codes "store")) (Some Store)
    (cond (bytes_eq w (codes "text")) (Some Text)
    (cond (bytes_eq w (codes "memory")) (Some Memory)
    (cond (bytes_eq w (codes "token-book")) (Some TokenBook)
    (cond (bytes_eq w (codes "line-book")) (Some LineBook)
    (cond (bytes_eq w (codes "correct")) (Some Correct)
    (cond (bytes_eq w (codes "token")) (Some Token)
    (cond (bytes_eq w (codes "line")) (Some Line)
    (cond (bytes_eq w (codes "where")) (Some Where)
    (cond (bytes_eq w (codes "time")) (Some Time)
    (cond (bytes_eq w (codes "copy")) (Some Copy)
    (cond (bytes_eq w (codes "alike")) (Some Alike)
    None)))))))))))
