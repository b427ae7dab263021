mod AcceptedTexts
mod OpenNodes
mod TakenLines
mod WordNumbers
